-- `boolean::result` meets its contract. Assumes nothing.
use mathlib.Core.Path.{refl, sym, ◌∙◌}
use Prim.Native.Nat.{◌≤◌, ◌<◌}
use native.Mathlib.Omega.{arith}
use Rattle.automaton.specs.Form.{total_length}
use Rattle.automaton.proofs.Verdict.{pass, stop, pass_at_least, stop_below}
use Rattle.boolean.proofs.Refusing.{within_known}
use Rattle.boolean.proofs.result.Goals as goal

pub returns-then-not-within_limits : goal.returns-then-not-within_limits
returns-then-not-within_limits c = stop _ _ _ _ c.within_limits.ensures c.if-not-within_limits.true

pub overflow_cast-size : goal.overflow_cast-size
overflow_cast-size c = let w = within_known _ _ _ (sym c.within_limits.ensures ∙ c.if-not-within_limits.false) in let l = w.few_states in omega arith

pub overflow_cast-size-2 : goal.overflow_cast-size-2
overflow_cast-size-2 c = let w = within_known _ _ _ (sym c.within_limits.ensures ∙ c.if-not-within_limits.false) in let l = w.few_rules in omega arith

pub returns-then-total_length-space : goal.returns-then-total_length-space
returns-then-total_length-space c =
    let m : total_length c.args.form c.args.symbols c.args.size.states c.args.size.rules ≤ c.args.space = omega arith in
    pass _ _ _ _ c.within_limits.ensures _ c.if-not-within_limits.false (pass_at_least _ _ _ _ _ m refl)

pub returns-else-total_length-space : goal.returns-else-total_length-space
returns-else-total_length-space c =
    let m : c.args.space < total_length c.args.form c.args.symbols c.args.size.states c.args.size.rules = omega arith in
    pass _ _ _ _ c.within_limits.ensures _ c.if-not-within_limits.false (stop_below _ _ _ _ m)
