-- Texts have one numbering: what `TextsNumbered` asks of the numbers settles them all. Assumes nothing.
use mathlib.Core.Path.{◌≡◌, sym, ◌∙◌}
use mathlib.Core.List.{List, []}
use Prim.Native.Nat.{ℕ, zero, suc, ◌<◌}
use native.Mathlib.Omega.{arith}
use lib.ListN.{length, get_or}
use lib.Seq.{ext_get_or}
use Rattle.jsonrows.specs.Meaning.{TextsNumbered}

-- of two numberings that agree before i, neither has the higher number at i: the lower one would stand before in both
not_lower : (texts : List (List ℕ)) (a b : List ℕ) → TextsNumbered texts a → TextsNumbered texts b → (i : ℕ) → i < length texts → ((j : ℕ) → j < i → get_or a j 0 ≡ get_or b j 0) → get_or b i 0 < get_or a i 0 → ⊥
not_lower texts a b A B i l before less =
    let (j, m, e) = A.in_order i l (get_or b i 0) less in
    let same_text : get_or texts j [] ≡ get_or texts i [] = (B.equal j i (omega arith) l).0 (sym (before j m) ∙ e) in
    let same : get_or a j 0 ≡ get_or a i 0 = (A.equal j i (omega arith) l).1 same_text in
    omega arith

module _ (texts : List (List ℕ)) (a b : List ℕ) (A : TextsNumbered texts a) (B : TextsNumbered texts b) where
  below : (n i : ℕ) → i < n → i < length texts → get_or a i 0 ≡ get_or b i 0
  below zero i l m = let z : ⊥ = omega arith in absurd z
  below (suc n) i l m =
      let not-less = not_lower texts a b A B i m (λ j k. below n j (omega arith) (omega arith)) in
      let not_more = not_lower texts b a B A i m (λ j k. sym (below n j (omega arith) (omega arith))) in
      omega arith

  -- TWO NUMBERINGS OF THE SAME TEXTS ARE ONE.
  pub numbered_once : a ≡ b
  numbered_once =
      ext_get_or 0 a b (A.as_many ∙ sym B.as_many) (λ i l. below (length texts) i (omega (arith, A.as_many)) (omega (arith, A.as_many)))
