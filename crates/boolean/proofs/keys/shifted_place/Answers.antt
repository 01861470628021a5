-- `boolean::keys::shifted_place` meets its contract. Assumes nothing.
use borrow.Author.Tests.{lt-ltb, le-ltb}
use mathlib.Core.Path.{ap, ◌∙◌}
use Prim.Native.Nat.{ℕ, ◌+◌}
use Rattle.boolean.specs.Key.{shifted_place}
use Rattle.boolean.proofs.keys.shifted_place.Goals as goal

pub returns-then-p-lt-MAX_STATES : goal.returns-then-p-lt-MAX_STATES
unfolding shifted_place
returns-then-p-lt-MAX_STATES c = rw (lt-ltb _ _ c.if-p-lt-MAX_STATES.true) (ap (λ (z : ℕ). z + c.from-then-p-lt-MAX_STATES.result) c.from.ensures ∙ ap (c.args.n +◌) c.from-then-p-lt-MAX_STATES.ensures)

pub returns-else-p-lt-MAX_STATES : goal.returns-else-p-lt-MAX_STATES
unfolding shifted_place
returns-else-p-lt-MAX_STATES c = rw (le-ltb _ _ c.if-p-lt-MAX_STATES.false) c.from-else-p-lt-MAX_STATES.ensures
