use borrow.Author.Rules.{rules}
use Rattle.emptiness.proofs.Tabling.{loops_more}
use Rattle.emptiness.proofs.Rooted.{one_less, none_less, building}
use Rattle.emptiness.proofs.building.Builder.+build.Goals as goal

pub returns-then-known : goal.returns-then-known
returns-then-known t c = search building

pub returns-in_default : goal.returns-in_default
returns-in_default t c = let z = none_less _ _ c.checked_sub.ensures c.in_default.is in search building

pub returns-in_default-checked_sub : goal.returns-in_default-checked_sub
returns-in_default-checked_sub t c = let z = none_less _ _ c.checked_sub-2.ensures c.in_default-checked_sub.is in search building

pub loop-k-preserved : goal.loop-k-preserved
loop-k-preserved t c = let d = one_less _ _ _ c.checked_sub-2.ensures c.in-Some-checked_sub.is in (
  search rules,
  loops_more _ _ _ _ _ _ _ _ _ _ _ _ _ _ _ _ _ c.loop-k.invariant.1 c.rule_symbol.ensures c.arity-k-end.ensures _ _ _ _ _ _
      c.loop-k-test.true c.rule_child-c.ensures d.1 d.0 c.build.ensures,
)

pub returns : goal.returns
returns t c = let z = one_less _ _ _ c.checked_sub.ensures c.in-Some.is in search building
