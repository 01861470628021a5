-- `boolean::keys::paired_place` meets its contract. Assumes nothing.
use borrow.Author.Tests.{lt-ltb, le-ltb}
use native.Mathlib.Omega.{arith}
use mathlib.Core.Path.{ap, ◌∙◌}
use Prim.Native.Nat.{ℕ, ◌+◌, ◌*◌}
use Rattle.boolean.specs.Key.{paired_place}
use Rattle.boolean.proofs.Packing.{product_low}
use Rattle.boolean.proofs.keys.paired_place.Goals as goal

pub overflow_mul-result : goal.overflow_mul-result
overflow_mul-result c = let e = product_low c.from.result c.from-then-p-lt-MAX_STATES.result (omega (arith, c.ranges)) (omega (arith, c.ranges)) in omega arith

pub overflow_add-result : goal.overflow_add-result
overflow_add-result c = let e = product_low c.from.result c.from-then-p-lt-MAX_STATES.result (omega (arith, c.ranges)) (omega (arith, c.ranges)) in omega (arith, c.ranges)

pub returns-then-p-lt-MAX_STATES : goal.returns-then-p-lt-MAX_STATES
unfolding paired_place
returns-then-p-lt-MAX_STATES c = rw (lt-ltb _ _ c.if-p-lt-MAX_STATES.true)
    (ap (λ (z : ℕ). z * c.from-then-p-lt-MAX_STATES.result + c.from-then-p-lt-MAX_STATES-2.result) c.from.ensures
    ∙ ap (λ (z : ℕ). c.args.p.0 * z + c.from-then-p-lt-MAX_STATES-2.result) c.from-then-p-lt-MAX_STATES.ensures
    ∙ ap (c.args.p.0 * c.args.n +◌) c.from-then-p-lt-MAX_STATES-2.ensures)

pub returns-else-p-lt-MAX_STATES : goal.returns-else-p-lt-MAX_STATES
unfolding paired_place
returns-else-p-lt-MAX_STATES c = rw (le-ltb _ _ c.if-p-lt-MAX_STATES.false) c.from-else-p-lt-MAX_STATES.ensures
