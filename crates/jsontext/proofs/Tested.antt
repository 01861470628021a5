-- What a test says of a byte that was read and tried. Assumes nothing.
use mathlib.Core.Path.{◌≡◌, sym, ap, ◌∙◌}
use mathlib.Core.Bool.{Bool}
use Prim.Native.Nat.{ℕ}

pub tested : (p : ℕ → Bool) {b x : ℕ} {d a : Bool} → b ≡ x → d ≡ p b → d ≡ a → p x ≡ a
tested p e f g = ap p (sym e) ∙ sym f ∙ g
