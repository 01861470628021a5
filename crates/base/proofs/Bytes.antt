-- Bytes at places of a text: what a byte that some rule allows says of its place. Assumes nothing.
use mathlib.Core.Path.{◌≡◌, sym, ◌∙◌}
use mathlib.Core.Bool.{Bool, true, false, true≢false}
use mathlib.Core.List.{List, [], ◌∷◌}
use Prim.Native.Nat.{ℕ, zero, suc, ◌<◌, ◌≤◌}
use native.Mathlib.Omega.{arith}
use lib.ListN.{length, get_or-eq_default}
use Rattle.base.specs.Text.{byte_at}

-- past the end stands 0
pub past : (t : List ℕ) (i : ℕ) → length t ≤ i → 0 ≡ byte_at t i
past t i h = sym (get_or-eq_default t 0 h)

-- another byte stands inside
pub inside : (t : List ℕ) (i : ℕ) → 0 < byte_at t i → i < length t
inside [] i h = absurd (omega arith)
inside (x ∷ xs) zero h = omega arith
inside (x ∷ xs) (suc i) h = let k : i < length xs = inside xs i h in omega arith

pub byte_inside : (t : List ℕ) (i b : ℕ) → b ≡ byte_at t i → 0 < b → i < length t
byte_inside t i b e h = inside t i (omega arith)

-- so does a byte of a class that 0 is not in
above : (p : ℕ → Bool) → p 0 ≡ false → (b : ℕ) → p b ≡ true → 0 < b
above p z zero e = absurd (true≢false (sym e ∙ z))
above p z (suc b) e = omega arith

pub class_inside : (p : ℕ → Bool) → p 0 ≡ false → (t : List ℕ) (i : ℕ) → p (byte_at t i) ≡ true → i < length t
class_inside p z t i e = inside t i (above p z (byte_at t i) e)
