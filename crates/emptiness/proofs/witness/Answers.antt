-- `emptiness::witness` meets its contract: the set is tried first, then the space and the tags, then what was found stands. Assumes nothing.
use mathlib.Core.Path.{refl}
use Rattle.std.proofs.lemmas.Result.{err_from_is_err_and}
use Rattle.automaton.proofs.Verdict.{passed_zero}
use Rattle.emptiness.proofs.Outcome.{set_answer, set_space, sample_answer, sample_space, found_answer, found_space, roomy}
use Rattle.emptiness.proofs.witness.Goals as goal

pub returns-in_err-check : goal.returns-in_err-check
returns-in_err-check c =
    let p = err_from_is_err_and c.from_residual.result c.from_residual.ensures.1 in
    record { answer = rw (p.1, p.2) (set_answer _ c.args.rows.now _ c.check.ensures _ c.in_err-check.was); space = set_space _ _ _ c.check.ensures _ c.in_err-check.was }

pub returns-in_err-sample_check : goal.returns-in_err-sample_check
returns-in_err-sample_check c =
    let p = err_from_is_err_and c.from_residual-in_err-sample_check.result c.from_residual-in_err-sample_check.ensures.1 in
    record {
      answer = rw (p.1, p.2) (sample_answer _ c.args.rows.now _ c.check.ensures c.in_ok-check.was _ c.sample_check.ensures _ c.in_err-sample_check.was);
      space = sample_space _ _ _ c.check.ensures c.in_ok-check.was _ c.sample_check.ensures _ c.in_err-sample_check.was;
    }

pub invariant_of-sound : goal.invariant_of-sound
invariant_of-sound c = record {
  sound = passed_zero _ _ c.check.ensures c.in_ok-check.was;
  all_states = c.header-h.ensures.states;
  all_rules = c.header-h.ensures.rules;
}

pub find-requires : goal.find-requires
find-requires c = roomy _ _ _ c.check.ensures c.in_ok-check.was _ c.sample_check.ensures c.in_ok-sample_check.was _ refl

pub returns : goal.returns
returns c = record {
  answer = found_answer _ c.args.rows.now _ c.check.ensures c.in_ok-check.was _ c.sample_check.ensures c.in_ok-sample_check.was _ c.find.ensures.answer;
  space = found_space _ _ _ c.check.ensures c.in_ok-check.was _ c.sample_check.ensures c.in_ok-sample_check.was _ c.find.ensures.space;
}
