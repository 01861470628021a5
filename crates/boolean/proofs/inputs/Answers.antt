-- `boolean::inputs` meets its contract: the first set is tried before the second, and 51 after both. Assumes nothing.
use mathlib.Core.Path.{refl, ◌∙◌}
use Rattle.std.proofs.lemmas.Result.{err_from_is_err_and}
use Rattle.automaton.proofs.Verdict.{refused_after, passed_after, pass, stop}
use Rattle.boolean.proofs.inputs.Goals as goal

pub returns-in_err-check : goal.returns-in_err-check
returns-in_err-check c = let p = err_from_is_err_and c.from_residual.result c.from_residual.ensures.1 in rw (p.1, p.2) (refused_after _ _ c.check.ensures _ _ c.in_err-check.was)

pub returns-in_err-check-2 : goal.returns-in_err-check-2
returns-in_err-check-2 c =
    let p = err_from_is_err_and c.from_residual-in_err-check-2.result c.from_residual-in_err-check-2.ensures.1 in
    rw (p.1, p.2) (refused_after _ _ c.check-2.ensures _ _ c.in_err-check-2.was ∙ passed_after _ _ c.check.ensures _ c.in_ok-check.was)

pub returns-then-same_symbols : goal.returns-then-same_symbols
returns-then-same_symbols c = pass _ _ _ _ c.same_symbols.ensures _ c.if-same_symbols.true refl ∙ passed_after _ _ c.check-2.ensures _ c.in_ok-check-2.was ∙ passed_after _ _ c.check.ensures _ c.in_ok-check.was

pub returns-else-same_symbols : goal.returns-else-same_symbols
returns-else-same_symbols c = stop _ _ _ _ c.same_symbols.ensures c.if-same_symbols.false ∙ passed_after _ _ c.check-2.ensures _ c.in_ok-check-2.was ∙ passed_after _ _ c.check.ensures _ c.in_ok-check.was
