-- Numbers in a row, and what is made of each: one more, none left, and that only a window counts where nothing is made outside it. Assumes nothing.
use mathlib.Core.Path.{◌≡◌, refl, sym, ap, ◌∙◌}
use mathlib.Core.List.{List, [], ◌∷◌, ◌++◌, append-nil, append_assoc}
use Prim.Native.Nat.{ℕ, zero, suc, ◌+◌, ◌-◌, ◌<◌, ◌≤◌}
use native.Mathlib.Omega.{arith}
use Rattle.model.specs.Lists.{concat_map}
use Rattle.membership.specs.Search.{span}

module _ {B : Type 0} where
  pub concat_map_append : {A : Type 0} (f : A → List B) (xs ys : List A) → concat_map f (xs ++ ys) ≡ concat_map f xs ++ concat_map f ys
  concat_map_append f [] ys = refl
  concat_map_append f (x ∷ xs) ys = ap (λ l. f x ++ l) (concat_map_append f xs ys) ∙ sym (append_assoc (f x) (concat_map f xs) (concat_map f ys))

  pub concat_map_same : (f g : ℕ → List B) (i n : ℕ) → ((j : ℕ) → i ≤ j → j < i + n → f j ≡ g j) → concat_map f (span i n) ≡ concat_map g (span i n)
  concat_map_same f g i zero h = refl
  concat_map_same f g i (suc n) h = cc (h i (omega arith) (omega arith), concat_map_same f g (suc i) n (λ j a b. h j (omega arith) (omega arith)))

  module _ (f : ℕ → List B) where
    pub span_more : (j high : ℕ) → j < high → concat_map f (span j (high - j)) ≡ f j ++ concat_map f (span (j + 1) (high - (j + 1)))
    span_more j high l =
        let e : high - j ≡ suc (high - (j + 1)) = omega arith in
        let e' : suc j ≡ j + 1 = omega arith in
        ap (λ n. concat_map f (span j n)) e ∙ ap (λ i. f j ++ concat_map f (span i (high - (j + 1)))) e'

    pub span_end : (j high : ℕ) → high ≤ j → concat_map f (span j (high - j)) ≡ []
    span_end j high l = let e : high - j ≡ 0 = omega arith in ap (λ n. concat_map f (span j n)) e

    pub none : (i n : ℕ) → ((j : ℕ) → i ≤ j → j < i + n → f j ≡ []) → concat_map f (span i n) ≡ []
    none i zero h = refl
    none i (suc n) h = rw (h i (omega arith) (omega arith)) (none (suc i) n (λ j a b. h j (omega arith) (omega arith)))

    split : (i n m : ℕ) → concat_map f (span i (n + m)) ≡ concat_map f (span i n) ++ concat_map f (span (i + n) m)
    split i zero m = let e : i ≡ i + 0 = omega arith in let e' : 0 + m ≡ m = omega arith in ap (λ k. concat_map f (span i k)) e' ∙ ap (λ k. concat_map f (span k m)) e
    split i (suc n) m =
        let e : suc n + m ≡ suc (n + m) = omega arith in
        let e' : suc i + n ≡ i + suc n = omega arith in
        ap (λ k. concat_map f (span i k)) e ∙ ap (λ l. f i ++ l) (split (suc i) n m ∙ ap (λ k. concat_map f (span (suc i) n) ++ concat_map f (span k m)) e') ∙ sym (append_assoc (f i) (concat_map f (span (suc i) n)) (concat_map f (span (i + suc n) m)))

    -- numbers of which nothing is made may be passed over
    pub span_jump : (j k high : ℕ) → j ≤ k → k ≤ high → ((x : ℕ) → j ≤ x → x < k → f x ≡ []) → concat_map f (span j (high - j)) ≡ concat_map f (span k (high - k))
    span_jump j k high a b h =
        let e : high - j ≡ k - j + (high - k) = omega arith in
        let e' : j + (k - j) ≡ k = omega arith in
        ap (λ n. concat_map f (span j n)) e
        ∙ split j (k - j) (high - k)
        ∙ ap (λ l. l ++ concat_map f (span (j + (k - j)) (high - k))) (none j (k - j) (λ x l m. h x l (omega arith)))
        ∙ ap (λ i. concat_map f (span i (high - k))) e'

    -- only the window from low up to high counts
    pub span_window : (low high n : ℕ) → low ≤ high → high ≤ n → ((j : ℕ) → j < low → f j ≡ []) → ((j : ℕ) → high ≤ j → j < n → f j ≡ []) → concat_map f (span 0 n) ≡ concat_map f (span low (high - low))
    span_window low high n a b before after =
        let e : n ≡ low + (high - low + (n - high)) = omega arith in
        let front = none 0 low (λ j _ l. before j (omega arith)) in
        let back = none (low + (high - low)) (n - high) (λ j l l'. after j (omega arith) (omega arith)) in
        let e' : 0 + low ≡ low = omega arith in
        ap (λ k. concat_map f (span 0 k)) e
        ∙ split 0 low (high - low + (n - high))
        ∙ ap (λ l. l ++ concat_map f (span (0 + low) (high - low + (n - high)))) front
        ∙ ap (λ k. concat_map f (span k (high - low + (n - high)))) e'
        ∙ split low (high - low) (n - high)
        ∙ ap (λ l. concat_map f (span low (high - low)) ++ l) back
        ∙ append-nil (concat_map f (span low (high - low)))
