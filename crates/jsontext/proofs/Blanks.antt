-- White space, byte by byte: what the loop knows at its head. Assumes nothing.
use mathlib.Core.Path.{◌≡◌, sym, ap, ◌∙◌}
use mathlib.Core.Bool.{Bool, true, false}
use mathlib.Core.List.{List}
use Prim.Native.Nat.{ℕ, ◌+◌, ◌-◌, ◌<◌, ◌≤◌}
use native.Mathlib.Omega.{arith}
use borrow.Author.Tests.{ne_eqb}
use lib.ListN.{length}
use Rattle.base.specs.Text.{byte_at}
use Rattle.base.proofs.Leading.{Led, led_none, led_more, led_stop, led_all}
use Rattle.classes.specs.Classes.{space?}
use Rattle.jsontext.specs.Spaces.{space_end}

-- no byte above 32 is a space
pub blank_above : (b : ℕ) → 32 < b → space? b ≡ false
unfolding space?
blank_above b h = rw (ne_eqb b 9 (λ e. omega arith), ne_eqb b 10 (λ e. omega arith), ne_eqb b 13 (λ e. omega arith), ne_eqb b 32 (λ e. omega arith))

-- whether a space stands k places behind i
abbrev blank? : List ℕ → ℕ → ℕ → Bool
blank? t i k = space? (byte_at t (i + k))

-- spaces stand from place `at` up to place i
pub record Blank (t : List ℕ) (at i : ℕ) : Type 0 where
  pub behind : at ≤ i
  pub led : Led (blank? t at) (length t - at) (i - at)

module _ (t : List ℕ) (at : ℕ) where
  pub blank_none : Blank t at at
  blank_none = let z : at - at ≡ 0 = omega arith in record { behind = omega arith; led = rw z (led_none _ _) }

  module _ (i : ℕ) (v : Blank t at i) where
    -- the place in question, counted from the first
    here : space? (byte_at t i) ≡ blank? t at (i - at)
    here = let e : i ≡ at + (i - at) = omega (arith, v.behind) in ap (λ (n : ℕ). space? (byte_at t n)) e

    pub blank_more : i < length t → space? (byte_at t i) ≡ true → Blank t at (i + 1)
    blank_more h e =
        let n : i + 1 - at ≡ i - at + 1 = omega (arith, v.behind) in
        record { behind = omega (arith, v.behind); led = rw n (led_more _ _ _ v.led (omega (arith, v.behind)) (sym here ∙ e)) }

    pub blank_stop : i < length t → space? (byte_at t i) ≡ false → i ≡ space_end t at
    unfolding space_end
    blank_stop h e = let n = led_stop _ _ _ v.led (omega (arith, v.behind)) (sym here ∙ e) in omega (arith, v.behind)

    pub blank_all : length t ≤ i → i ≡ space_end t at
    unfolding space_end
    blank_all h = let n = led_all _ _ _ v.led (omega arith) in omega (arith, v.behind)
