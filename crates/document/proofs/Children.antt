-- The used places of a row: settled one after the other, and compared up to the first unused one. Assumes nothing.
use mathlib.Core.Path.{◌≡◌, refl, sym, ◌∙◌}
use mathlib.Core.Bool.{Bool, true, false, cond}
use mathlib.Core.Logic.{⊎_elim}
use mathlib.Core.List.{List, [], ◌∷◌}
use Prim.Native.Nat.{ℕ, zero, suc, ◌+◌, ◌<◌, ◌≤◌, zero-le}
use native.Mathlib.Nat.{eq-or-lt_of_le, not-suc-le-zero}
use native.Mathlib.Numerals.{add-one, add-one-le}
use native.Mathlib.Omega.{arith}
use lib.Dec.{eqb, eqb→eq}
use lib.ListN.{length, get_or, set, drop, length-set, drop_of_length-le}
use lib.Seq.{ext_get_or, get_or-set_same, get_or-set_other, drop-cons}
use borrow.Author.Tests.{eq-eqb, ne_eqb}
use Rattle.model.specs.Limits.{unused}
use Rattle.model.specs.Lists.{eq_list, tab}
use Rattle.model.proofs.Tab.{tab_at, length_tab}
use Rattle.document.specs.Rows.{used}
use Rattle.document.specs.Fields.{place_after}

-- the first place is used as it stands
used_first : (ps : List ℕ) → 0 < length ps → get_or (used ps) 0 unused ≡ get_or ps 0 0
used_first [] h = absurd (not-suc-le-zero h)
used_first (x ∷ ps) h = go (eqb x unused) refl
  where
    go : (b : Bool) → eqb x unused ≡ b → get_or (cond b [] (x ∷ used ps)) 0 unused ≡ x
    go true e = sym (eqb→eq x unused (rw e tt))
    go false e = refl

-- and each later one, unless the one before it is unused
used_next : (ps : List ℕ) (k : ℕ) → suc k < length ps → get_or (used ps) (suc k) unused ≡ place_after (get_or (used ps) k unused) (get_or ps (suc k) 0)
used_next [] k h = absurd (not-suc-le-zero h)
used_next (x ∷ ps) zero h = go (eqb x unused) refl
  where
    go : (b : Bool) → eqb x unused ≡ b → get_or (cond b [] (x ∷ used ps)) 1 unused ≡ place_after (get_or (cond b [] (x ∷ used ps)) 0 unused) (get_or ps 0 0)
    go true e = refl
    go false e = rw e (used_first ps (omega arith))
used_next (x ∷ ps) (suc k) h = go (eqb x unused) (used_next ps k (omega arith))
  where
    go : (b : Bool) → get_or (used ps) (suc k) unused ≡ place_after (get_or (used ps) k unused) (get_or ps (suc k) 0)
        → get_or (cond b [] (x ∷ used ps)) (suc (suc k)) unused ≡ place_after (get_or (cond b [] (x ∷ used ps)) (suc k) unused) (get_or ps (suc k) 0)
    go true i = refl
    go false i = i

-- the places up to k are settled
pub record Settled (ps p : List ℕ) (k : ℕ) : Type 0 where
  pub size : length p ≡ length ps
  pub inside : k < length ps
  pub front : (j : ℕ) → j ≤ k → get_or p j 0 ≡ get_or (used ps) j unused
  pub rest : (j : ℕ) → k < j → get_or p j 0 ≡ get_or ps j 0

module _ (ps : List ℕ) where
  pub settled_first : 0 < length ps → Settled ps ps 0
  settled_first h = record { size = refl; inside = h; front = λ j l. rw (le_zero j l) (sym (used_first ps h)); rest = λ j l. refl }
    where
      le_zero : (j : ℕ) → j ≤ 0 → j ≡ 0
      le_zero j l = omega arith

  pub settled_next : (p : List ℕ) (k r : ℕ) → Settled ps p k → k + 1 < length ps → r ≡ place_after (get_or p k 0) (get_or p (k + 1) 0) → Settled ps (set p (k + 1) r) (k + 1)
  settled_next p k r s h e =
      record {
        size = length-set p (k + 1) r ∙ s.size;
        inside = h;
        front = λ j l. ⊎_elim (last j) (λ g. get_or-set_other p (k + 1) j r 0 (λ q. omega arith) ∙ s.front j (omega arith)) (eq-or-lt_of_le l);
        rest = λ j l. get_or-set_other p (k + 1) j r 0 (λ q. omega arith) ∙ s.rest j (omega arith);
      }
    where
      fits : k + 1 < length p
      fits = rw s.size h

      right : r ≡ get_or (used ps) (k + 1) unused
      right = rw (e, s.front k (omega arith), s.rest (k + 1) (omega arith), add-one) (sym (used_next ps k (rw add-one at h)))

      last : (j : ℕ) → j ≡ k + 1 → get_or (set p (k + 1) r) j 0 ≡ get_or (used ps) j unused
      last j q = rw q (get_or-set_same p (k + 1) r 0 fits ∙ right)

  pub settled_all : (p : List ℕ) (k : ℕ) → Settled ps p k → length ps ≤ k + 1 → p ≡ tab (length ps) (λ j. get_or (used ps) j unused)
  settled_all p k s h =
      ext_get_or 0 p (tab (length ps) (λ j. get_or (used ps) j unused)) (s.size ∙ sym (length_tab (length ps) (λ j. get_or (used ps) j unused)))
      (λ j l. let m : j < length ps = rw s.size at l in s.front j (omega arith) ∙ sym (tab_at 0 (length ps) (λ i. get_or (used ps) i unused) j m))

module _ (x y : ℕ) (xs ys : List ℕ) where
  heads_differ : (x ≡ y → ⊥) → eq_list (used (x ∷ xs)) (used (y ∷ ys)) ≡ false
  heads_differ h = go (eqb x unused) (eqb y unused) refl refl
    where
      go : (a b : Bool) → eqb x unused ≡ a → eqb y unused ≡ b → eq_list (cond a [] (x ∷ used xs)) (cond b [] (y ∷ used ys)) ≡ false
      go true true e f = absurd (h (eqb→eq x unused (rw e tt) ∙ sym (eqb→eq y unused (rw f tt))))
      go true false e f = refl
      go false true e f = refl
      go false false e f = rw (ne_eqb x y h)

  heads_unused : x ≡ y → x ≡ unused → eq_list (used (x ∷ xs)) (used (y ∷ ys)) ≡ true
  heads_unused e u = rw (← e, u)

  heads_used : x ≡ y → (x ≡ unused → ⊥) → eq_list (used (x ∷ xs)) (used (y ∷ ys)) ≡ eq_list (used xs) (used ys)
  heads_used e u = rw (← e, ne_eqb x unused u, eq-eqb x x refl)

-- the places below k are used and the same in both lists
pub record Alike (a b : List ℕ) (k : ℕ) : Type 0 where
  pub size : length b ≡ length a
  pub inside : k ≤ length a
  pub rest : eq_list (used (drop k a)) (used (drop k b)) ≡ eq_list (used a) (used b)

module _ (a b : List ℕ) where
  pub alike_none : length b ≡ length a → Alike a b 0
  alike_none e = record { size = e; inside = zero-le; rest = refl }

  module _ (k x y : ℕ) (s : Alike a b k) (h : k < length a) (ex : x ≡ get_or a k 0) (ey : y ≡ get_or b k unused) where
    cut_a : drop k a ≡ x ∷ drop (suc k) a
    cut_a = rw ex (drop-cons a k 0 h)

    cut_b : drop k b ≡ y ∷ drop (suc k) b
    cut_b = rw ey (drop-cons b k unused (rw s.size h))

    cut : eq_list (used a) (used b) ≡ eq_list (used (x ∷ drop (suc k) a)) (used (y ∷ drop (suc k) b))
    cut = sym s.rest ∙ λ i. eq_list (used (cut_a i)) (used (cut_b i))

    pub alike_not : (x ≡ y → ⊥) → false ≡ eq_list (used a) (used b)
    alike_not n = sym (cut ∙ heads_differ x y (drop (suc k) a) (drop (suc k) b) n)

    pub alike_end : x ≡ y → x ≡ unused → true ≡ eq_list (used a) (used b)
    alike_end e u = sym (cut ∙ heads_unused x y (drop (suc k) a) (drop (suc k) b) e u)

    pub alike_more : x ≡ y → (x ≡ unused → ⊥) → Alike a b (k + 1)
    alike_more e u =
        record {
          size = s.size;
          inside = add-one-le h;
          rest = rw add-one (sym (cut ∙ heads_used x y (drop (suc k) a) (drop (suc k) b) e u));
        }

  pub alike_all : (k : ℕ) → Alike a b k → length a ≤ k → true ≡ eq_list (used a) (used b)
  alike_all k s h =
      let g : length b ≤ k = rw s.size h in
      sym (λ i. eq_list (used (drop_of_length-le a h i)) (used (drop_of_length-le b g i))) ∙ s.rest
