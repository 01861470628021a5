-- `boolean::keys::digit_at` meets its contract: a shift is a division. Assumes nothing.
use mathlib.Core.Path.{ap}
use Prim.Native.Nat.{ℕ, ◌+◌, ◌*◌, ◌/◌, ◌%◌, ◌^◌}
use Rattle.boolean.specs.Key.{digit_at}
use Rattle.boolean.proofs.keys.digit_at.Goals as goal

pub returns : goal.returns
unfolding digit_at
returns c = ap (λ (z : ℕ). c.args.x / 2 ^ (16 + 8 * z) % 256) c.from.ensures
