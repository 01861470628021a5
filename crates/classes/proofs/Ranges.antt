-- Where the bytes of a class lie. Assumes nothing.
use mathlib.Core.Path.{◌≡◌, refl}
use mathlib.Core.Bool.{Bool, true, false, ◌&&◌, ◌||◌}
use Prim.Native.Nat.{ℕ, ◌≤◌}
use native.Mathlib.Omega.{arith}
use lib.Dec.{leb}
use borrow.Author.Tests.{leb-true}
use Rattle.classes.specs.Classes.{letter?, digit?}

pub both : (a b : Bool) → (a && b) ≡ true → (a ≡ true) × (b ≡ true)
both true b e = (refl, e)
both false b e = let z : ◌≡◌ {A = ℕ} 0 1 = cc in absurd (omega arith)

pub either : {C : Type 0} (a b : Bool) → (a ≡ true → C) → (b ≡ true → C) → (a || b) ≡ true → C
either true b f g h = f refl
either false b f g h = g h

pub between : (a b x : ℕ) → (leb a x && leb x b) ≡ true → (a ≤ x) × (x ≤ b)
between a b x e = let (p, q) = both (leb a x) (leb x b) e in (leb-true a x p, leb-true x b q)

pub letter_range : (b : ℕ) → letter? b ≡ true → (97 ≤ b) × (b ≤ 122)
unfolding letter?
letter_range b e = between 97 122 b e

pub digit_range : (b : ℕ) → digit? b ≡ true → (48 ≤ b) × (b ≤ 57)
unfolding digit?
digit_range b e = between 48 57 b e
