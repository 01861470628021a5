-- The numbers of texts: no two texts have the same, a text has one, and they count from 0 in the order of first appearance. Assumes nothing.
use mathlib.Core.Path.{◌≡◌, refl, sym, ap, subst, ◌∙◌}
use mathlib.Core.Logic.{◌⊎◌, inl, inr, ⊎_elim}
use mathlib.Core.Bool.{Bool, true, false, cond}
use mathlib.Core.List.{List, [], ◌∷◌, ◌++◌, append_assoc, append-nil, Memᴰ as In}
use mathlib.Core.Option.{Option, none, some, map}
use Prim.Native.Nat.{ℕ, zero, suc, ◌<◌, ◌≤◌}
use native.Mathlib.Nat.{eq-or-lt_of_le}
use native.Mathlib.Omega.{arith}
use lib.Dec.{T}
use lib.ListN.{length, get_or, length-append, get_or-append}
use lib.Seq.{get_or-append_seam}
use Rattle.model.specs.Lists.{eq_list}
use Rattle.model.proofs.Members.{eq_list→eq, eq_list_refl}
use Rattle.model.proofs.Count.{place_of_lem, NoRepeats, one_more}
use Rattle.jsonrows.specs.Keys.{find_text}
use Rattle.jsonrows.specs.Value.{numbered, number_text}

-- what the search finds: the text's number, or that there is none
abbrev pub FoundText : List ℕ → List (List ℕ) → Option ℕ → Type 0
FoundText bs texts (some i) = (i < length texts) × (get_or texts i [] ≡ bs)
FoundText bs texts none = (i : ℕ) → i < length texts → get_or texts i [] ≡ bs → ⊥

-- the search finds that
pub find_text_lem : (bs : List ℕ) (texts : List (List ℕ)) → FoundText bs texts (find_text bs texts)
unfolding find_text
find_text_lem bs [] = λ i l e. omega arith
find_text_lem bs (x ∷ texts) = go (eq_list bs x) refl (find_text bs texts) (find_text_lem bs texts)
  where
    go : (b : Bool) → eq_list bs x ≡ b → (o : Option ℕ) → FoundText bs texts o → FoundText bs (x ∷ texts) (cond b (some 0) (map suc o))
    go true e o h = (omega arith, sym (eq_list→eq bs x (rw e tt)))
    go false e (some i) h = (omega arith, h.1)
    go false e none h = elim [ zero ↦ λ l q. rw e at (subst (λ z. T (eq_list bs z)) (sym q) (eq_list_refl bs)) | suc j ↦ λ l q. h j (omega arith) q ]

-- a text has its number, which is one of those afterwards; the others keep theirs
pub record Numbered (bs : List ℕ) (texts : List (List ℕ)) (k : ℕ) (after : List (List ℕ)) : Type 0 where
  pub inside : k < length after
  pub text : get_or after k [] ≡ bs
  pub more : List (List ℕ)
  pub kept : after ≡ texts ++ more
  pub apart : NoRepeats [] texts → NoRepeats [] after
  -- a number that is new is the next
  pub next : (m : ℕ) → m < length after → (m < length texts) ⊎ (m ≡ k)

-- numbering a text gives it its number
pub text_number : (bs : List ℕ) (texts : List (List ℕ)) → Numbered bs texts (number_text bs texts).0 (number_text bs texts).1
text_number bs texts = go (find_text bs texts) (find_text_lem bs texts)
  where
    absent : ((i : ℕ) → i < length texts → get_or texts i [] ≡ bs → ⊥) → In bs texts → ⊥
    absent h m = let (i, l, e) = place_of_lem [] m in h i l e

    go : (o : Option ℕ) → FoundText bs texts o → Numbered bs texts (numbered bs texts o).0 (numbered bs texts o).1
    go (some i) h = record { inside = h.0; text = h.1; more = []; kept = sym (append-nil texts); apart = λ a. a; next = λ m. inl }
    go none h =
        let n = length-append texts (bs ∷ []) in
        record {
          inside = omega arith;
          text = get_or-append_seam texts bs [] [];
          more = bs ∷ [];
          kept = refl;
          apart = λ a. one_more [] texts bs a (absent h);
          next = λ m l. let le : m ≤ length texts = omega arith in ⊎_elim inr inl (eq-or-lt_of_le le);
        }

-- the numbers of texts one after the other, and the texts by number after them
abbrev pub number_all : List (List ℕ) → List (List ℕ) → List ℕ × List (List ℕ)
number_all [] texts = ([], texts)
number_all (x ∷ xs) texts = let (k, texts₁) = number_text x texts in let (ks, texts₂) = number_all xs texts₁ in (k ∷ ks, texts₂)

-- each of these texts has its number; the texts before keep theirs; and a number is one of those, or every number below it was given before
pub record AllNumbered (xs texts : List (List ℕ)) (ks : List ℕ) (after : List (List ℕ)) : Type 0 where
  pub as_many : length ks ≡ length xs
  pub inside : (i : ℕ) → i < length xs → get_or ks i 0 < length after
  pub text : (i : ℕ) → i < length xs → get_or after (get_or ks i 0) [] ≡ get_or xs i []
  pub more : List (List ℕ)
  pub kept : after ≡ texts ++ more
  pub apart : NoRepeats [] texts → NoRepeats [] after
  pub order : (i : ℕ) → i < length xs → (m : ℕ) → m < get_or ks i 0 → (m < length texts) ⊎ ((j : ℕ) × (j < i) × (get_or ks j 0 ≡ m))

module _ (x : List ℕ) (xs texts : List (List ℕ)) {k : ℕ} {texts₁ : List (List ℕ)} {ks : List ℕ} {after : List (List ℕ)} (h : Numbered x texts k texts₁) (r : AllNumbered xs texts₁ ks after) where
  longer : length texts₁ ≤ length after
  longer = let e = length-append texts₁ r.more in let q = ap length r.kept in omega arith

  first_text : get_or after k [] ≡ x
  first_text = ap (λ ts. get_or ts k []) r.kept ∙ get_or-append texts₁ r.more [] k h.inside ∙ h.text

  before : (m : ℕ) → m < k → (m < length texts) ⊎ ⊥
  before m l = let q : m < length texts₁ = omega (arith, h.inside) in ⊎_elim inl (λ e. let z : ⊥ = omega arith in inr z) (h.next m q)

  all_more : AllNumbered (x ∷ xs) texts (k ∷ ks) after
  all_more =
      record {
        as_many = ap suc r.as_many;
        inside = elim [ zero ↦ λ l. omega (arith, h.inside, longer) | suc j ↦ λ l. r.inside j (omega arith) ];
        text = elim [ zero ↦ λ l. first_text | suc j ↦ λ l. r.text j (omega arith) ];
        more = h.more ++ r.more;
        kept = r.kept ∙ ap (◌++ r.more) h.kept ∙ append_assoc texts h.more r.more;
        apart = λ a. r.apart (h.apart a);
        order = elim [ zero ↦ λ l m lm. ⊎_elim inl (λ z. absurd z) (before m lm) | suc j ↦ λ l m lm. ⊎_elim (λ q. ⊎_elim inl (λ e. inr (0, omega arith, sym e)) (h.next m q)) (λ (i, li, e). inr (suc i, omega arith, e)) (r.order j (omega arith) m lm) ];
      }

-- numbering texts one after the other gives them their numbers
pub all_numbered : (xs texts : List (List ℕ)) → AllNumbered xs texts (number_all xs texts).0 (number_all xs texts).1
all_numbered [] texts =
    record {
      as_many = refl;
      inside = λ i l. let z : ⊥ = omega arith in absurd z;
      text = λ i l. let z : ⊥ = omega arith in absurd z;
      more = [];
      kept = sym (append-nil texts);
      apart = λ a. a;
      order = λ i l. let z : ⊥ = omega arith in absurd z;
    }
all_numbered (x ∷ xs) texts = all_more x xs texts (text_number x texts) (all_numbered xs (number_text x texts).1)

-- the numbers of two lists are those of the first, then those of the second
pub number_append : (xs ys texts : List (List ℕ)) → number_all (xs ++ ys) texts ≡ (let (ks, texts₁) = number_all xs texts in let (ms, texts₂) = number_all ys texts₁ in (ks ++ ms, texts₂))
number_append [] ys texts = refl
number_append (x ∷ xs) ys texts = ap (λ p. ((number_text x texts).0 ∷ p.0, p.1)) (number_append xs ys (number_text x texts).1)
