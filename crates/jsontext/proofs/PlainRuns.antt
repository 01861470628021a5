-- Runs of bytes that stand for themselves: what the loops know at their heads. Assumes nothing.
use mathlib.Core.Path.{◌≡◌, refl, sym, ◌∙◌, subst}
use mathlib.Core.Bool.{Bool, true, false, ◌&&◌}
use mathlib.Core.Logic.{◌⊎◌, inl, inr}
use mathlib.Core.List.{List}
use Prim.Native.Nat.{ℕ, ◌+◌, ◌<◌, ◌≤◌}
use lib.Dec.{ltb}
use native.Mathlib.Omega.{arith}
use lib.ListN.{length}
use borrow.Author.Tests.{ltb-true, ltb-false}
use Rattle.document.proofs.Refusals.{true_and}
use Rattle.base.specs.Text.{byte_at}
use Rattle.jsontext.specs.Strings.{plain?}
use Rattle.jsontext.specs.StringAnswers.{Plains}

pub below_or_not : (k i : ℕ) → (k < i) ⊎ (i ≤ k)
below_or_not k i = go (ltb k i) refl
  where
    go : (b : Bool) → ltb k i ≡ b → (k < i) ⊎ (i ≤ k)
    go true e = inl (ltb-true k i e)
    go false e = inr (ltb-false k i e)

module _ (t : List ℕ) (at : ℕ) where
  pub plains_none : at ≤ length t → Plains t at at
  plains_none h = record { forward = omega arith; inside = h; each = λ k a b. absurd (omega arith) }

  module _ (i : ℕ) (v : Plains t at i) where
    pub plains_join : (n : ℕ) → Plains t i n → Plains t at n
    plains_join n w = record { forward = omega (arith, v.forward, w.forward); inside = w.inside; each = λ k a b. go k a b (below_or_not k i) }
      where
        go : (k : ℕ) → at ≤ k → k < n → (k < i) ⊎ (i ≤ k) → plain? (byte_at t k) ≡ true
        go k a b (inl h) = v.each k a h
        go k a b (inr h) = w.each k h b

    pub plains_more : i < length t → plain? (byte_at t i) ≡ true → Plains t at (i + 1)
    plains_more h e =
        plains_join (i + 1)
        (record { forward = omega arith; inside = omega arith; each = λ k a b. let z : i ≡ k = omega arith in subst (λ (x : ℕ). plain? (byte_at t x) ≡ true) z e })

module _ (t : List ℕ) (at k : ℕ) (all : Bool) (v : all ≡ true → Plains t at (at + k)) where
  pub block_more : (p : Bool) → at + k < length t → p ≡ plain? (byte_at t (at + k)) → (all && p) ≡ true → Plains t at (at + (k + 1))
  block_more p h e a =
      let (x, y) = true_and all p a in
      let z : at + k + 1 ≡ at + (k + 1) = omega arith in
      subst (Plains t at) z (plains_more t at (at + k) (v x) h (sym e ∙ y))
