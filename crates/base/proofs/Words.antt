-- A word at a place: it is whole, or it breaks off. Assumes nothing.
use mathlib.Core.Path.{◌≡◌, sym, ◌∙◌}
use mathlib.Core.Bool.{true, false}
use mathlib.Core.List.{List}
use Prim.Native.Nat.{ℕ, ◌+◌, ◌≤◌}
use native.Mathlib.Omega.{arith}
use borrow.Author.Tests.{eq-eqb, ne_eqb}
use lib.Dec.{eqb}
use lib.ListN.{length, get_or}
use Rattle.base.specs.Text.{byte_at, got, fault, word_bytes, word_at}
use Rattle.base.proofs.Leading.{counted}

pub word_short : (w t : List ℕ) (i n : ℕ) → n ≡ word_bytes w t i → n ≤ length w
unfolding word_bytes
word_short w t i n e = let k = (counted (λ k. eqb (byte_at t (i + k)) (get_or w k 0)) (length w)).inside in omega arith

module _ {A : Type 0} (v : A) (w t : List ℕ) (i n : ℕ) (count : n ≡ word_bytes w t i) where
  pub word_whole : n ≡ length w → got v (i + n) ≡ word_at v w t i
  unfolding word_at
  word_whole e = let f : eqb (word_bytes w t i) (length w) ≡ true = eq-eqb _ _ (sym count ∙ e) in rw (f, ← count)

  pub word_broken : (n ≡ length w → ⊥) → fault (i + n) ≡ word_at v w t i
  unfolding word_at
  word_broken h = let f : eqb (word_bytes w t i) (length w) ≡ false = ne_eqb _ _ (λ e. h (count ∙ e)) in rw (f, ← count)
