-- `boolean::combine` meets its contract: the inputs' refusal, then the result's, then the bytes. Assumes nothing.
use mathlib.Core.Path.{sym, ap, ◌∙◌}
use lib.ListN.{length}
use Rattle.std.proofs.lemmas.Result.{err_from_is_err_and}
use Rattle.automaton.specs.Stored.{decode}
use Rattle.boolean.proofs.Refusing.{inputs_refused, inputs_sound, result_refused, may_write, written}
use Rattle.boolean.proofs.combine.Goals as goal

pub returns-in_err-inputs : goal.returns-in_err-inputs
returns-in_err-inputs g c =
    let p = err_from_is_err_and c.from_residual.result c.from_residual.ensures.1 in
    let r = inputs_refused g.C.Combination.made _ _ c.args.out.now _ c.inputs.ensures _ c.in_err-inputs.was in
    record { answer = rw (p.1, p.2) r.0; space = r.1 }

pub invariant_of-sets : goal.invariant_of-sets
invariant_of-sets g c = let s = inputs_sound g.C.Combination.made _ _ c.args.out.now _ c.inputs.ensures c.in_ok-inputs.was in record { first_sound = s.0; second_sound = s.1; same = s.2 }

pub returns-in_err-result : goal.returns-in_err-result
returns-in_err-result g c =
    let p = err_from_is_err_and c.from_residual-in_err-result.result c.from_residual-in_err-result.ensures.1 in
    let r = result_refused g.C.Combination.made _ _ c.args.out.now _ c.inputs.ensures c.in_ok-inputs.was _ c.result_form-form.ensures _ _ _ (c.header.ensures.symbols ∙ ap length (sym (g.met.C.Combination.symbols (decode c.args.first.now) (decode c.args.second.now)))) c.size-size.ensures c.result.ensures _ c.in_err-result.was in
    record { answer = rw (p.1, p.2) r.0; space = r.1 }

pub put_result-requires : goal.put_result-requires
put_result-requires g c = may_write g.C.Combination.made _ _ c.args.out.now _ c.inputs.ensures c.in_ok-inputs.was _ c.result_form-form.ensures _ _ _ (c.header.ensures.symbols ∙ ap length (sym (g.met.C.Combination.symbols (decode c.args.first.now) (decode c.args.second.now)))) c.size-size.ensures c.result.ensures c.in_ok-result.was

pub returns : goal.returns
returns g c =
    let r = written g.C.Combination.made _ _ c.args.out.now _ c.inputs.ensures c.in_ok-inputs.was _ c.result_form-form.ensures _ _ _ (c.header.ensures.symbols ∙ ap length (sym (g.met.C.Combination.symbols (decode c.args.first.now) (decode c.args.second.now)))) c.size-size.ensures c.result.ensures c.in_ok-result.was _ _ c.put_result.ensures in
    record { answer = r.0; space = r.1 }
