-- The last case: none of the letters. Assumes nothing.
use mathlib.Core.Path.{◌≡◌}
use Prim.Native.Nat.{ℕ}
use native.Mathlib.Omega.{arith}
use borrow.Author.Tests.{ne_eqb}
use Rattle.jsontext.specs.Strings.{simple}
use Rattle.jsontext.proofs.pieces.simple.Goals as goal

other : (b : ℕ) → (b ≡ 34 → ⊥) → (b ≡ 92 → ⊥) → (b ≡ 47 → ⊥) → (b ≡ 98 → ⊥) → (b ≡ 102 → ⊥) → (b ≡ 110 → ⊥) → (b ≡ 114 → ⊥) → (b ≡ 116 → ⊥) → simple b ≡ 0
unfolding simple
other b p q r s t u v w = rw (ne_eqb b 34 p, ne_eqb b 92 q, ne_eqb b 47 r, ne_eqb b 98 s, ne_eqb b 102 t, ne_eqb b 110 u, ne_eqb b 114 v, ne_eqb b 116 w)

pub returns-in-34 : goal.returns-in-34
unfolding simple
returns-in-34 c = (rw c.in-34.is, omega arith)

pub returns-in-92 : goal.returns-in-92
unfolding simple
returns-in-92 c = (rw c.in-92.is, omega arith)

pub returns-in-47 : goal.returns-in-47
unfolding simple
returns-in-47 c = (rw c.in-47.is, omega arith)

pub returns-in-98 : goal.returns-in-98
unfolding simple
returns-in-98 c = (rw c.in-98.is, omega arith)

pub returns-in-102 : goal.returns-in-102
unfolding simple
returns-in-102 c = (rw c.in-102.is, omega arith)

pub returns-in-110 : goal.returns-in-110
unfolding simple
returns-in-110 c = (rw c.in-110.is, omega arith)

pub returns-in-114 : goal.returns-in-114
unfolding simple
returns-in-114 c = (rw c.in-114.is, omega arith)

pub returns-in-116 : goal.returns-in-116
unfolding simple
returns-in-116 c = (rw c.in-116.is, omega arith)

pub returns-in_default : goal.returns-in_default
returns-in_default c = other _ c.in_default.in_default-own.rest.0.0.0.0.0.0.0.1 c.in_default.in_default-own.rest.0.0.0.0.0.0.1 c.in_default.in_default-own.rest.0.0.0.0.0.1 c.in_default.in_default-own.rest.0.0.0.0.1 c.in_default.in_default-own.rest.0.0.0.1 c.in_default.in_default-own.rest.0.0.1 c.in_default.in_default-own.rest.0.1 c.in_default.in_default-own.rest.1
