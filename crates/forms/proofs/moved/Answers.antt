-- `forms::moved` meets its contract: the refusal, or the set in the other form. Assumes nothing.
use mathlib.Core.Path.{sym, ap, ◌∙◌}
use Rattle.std.proofs.lemmas.Result.{err_from_is_err_and}
use Rattle.base.specs.Refusals.{refused_by}
use Rattle.automaton.specs.Stored.{decode}
use Rattle.automaton.proofs.Answering.{refused_answer, written_answer_lem}
use Rattle.forms.proofs.Moving.{movable}
use Rattle.forms.proofs.moved.Goals as goal

pub returns-in_err-refusal : goal.returns-in_err-refusal
returns-in_err-refusal c =
    let p = err_from_is_err_and c.from_residual.result c.from_residual.ensures.1 in
    let r = refused_answer c.args.to (decode c.args.set.now) c.args.out.now _ _ (ap refused_by (sym c.in_err-refusal.was) ∙ c.refusal.ensures) in
    record { answer = rw (p.1, p.2) r.0; space = r.1 }

pub put_set-requires : goal.put_set-requires
put_set-requires c = (movable _ _ _ _ (sym c.refusal.ensures ∙ ap refused_by c.in_ok-refusal.was)).long

pub returns : goal.returns
returns c =
    let r = written_answer_lem c.args.to (decode c.args.set.now) c.args.out.now _ _ _ (sym c.refusal.ensures ∙ ap refused_by c.in_ok-refusal.was) c.put_set.ensures.0 c.put_set.ensures.1 in
    record { answer = r.0; space = r.1 }
