-- The builder adds rows as a plain scan would, and keeps its state. Assumes nothing.
use mathlib.Core.Path.{◌≡◌, refl, sym, ap, ◌∙◌, subst}
use mathlib.Core.Bool.{Bool, true, false, cond}
use mathlib.Core.Logic.{◌⊎◌, inl, inr, ⊎_elim}
use mathlib.Core.List.{List, [], ◌∷◌, ◌++◌}
use mathlib.Core.Option.{none, some, map}
use Prim.Native.Nat.{ℕ, zero, suc, ◌+◌, ◌*◌, ◌<◌, zero-le}
use native.Mathlib.Nat.{eq-or-lt_of_le}
use native.Mathlib.Numerals.{add-one}
use native.Mathlib.Omega.{arith}
use lib.Dec.{T}
use lib.ListN.{set, replicate}
use Rattle.model.specs.Limits.{max_rows}
use Rattle.model.specs.Space.{put_at}
use Rattle.model.specs.Lists.{tab}
use Rattle.model.specs.Table.{Row}
use Rattle.model.specs.Build.{eq_row, find_row, placed}
use Rattle.model.proofs.Tab.{length_tab}
use Rattle.model.proofs.Build.{eq_row→eq, eq_row_refl}
use Rattle.model.proofs.Space.{put_length, put_before}
use Rattle.document.specs.declared.rows.Row as table
use Rattle.document.specs.declared.index.Probed.{Probed}
use Rattle.document.specs.declared.index.Probed.TheVariants.{Found}
use Rattle.document.specs.declared.builder.Placed.TheVariants.{Added, Full}
use Rattle.document.specs.Rows.{row_cells, row_in, rows_below, encode_row, Kept}
use Rattle.document.specs.Fields.{as_row}
use Rattle.document.specs.Index.{slot_count, start_slot, probe}
use Rattle.document.specs.Builder.{Built, room_for?, place_at, find_or_add, Grows}
use Rattle.document.proofs.Probing.{scan, Opens, Answers, known, free, answers, indexed_none, indexed_same, indexed_more}
use Rattle.document.proofs.Putting.{row_kept, row_put, rows_put}
use Rattle.document.proofs.Placement.{room}

-- the test of the scan: row i equals r
abbrev pub equal? : List ℕ → Row → ℕ → Bool
equal? cells r i = eq_row r (row_in cells i)

abbrev number : table.Row → ℕ
number i = i.0

find_scan : (r : Row) (n : ℕ) (f : ℕ → Row) → find_row r (tab n f) ≡ scan n (λ i. eq_row r (f i))
find_scan r zero f = refl
find_scan r (suc n) f = ap (λ o. cond (eq_row r (f 0)) (some 0) (map suc o)) (find_scan r n (λ k. f (suc k)))

same_row : (r x : Row) → eq_row r x ≡ true → r ≡ x
same_row r x e = eq_row→eq r x (rw e tt)

-- Zeroed slots and any cells are a builder with no rows.
pub built_none : (cells : List ℕ) → Built cells (replicate slot_count 0) 0
built_none cells =
    record {
      few = zero-le;
      distinct = λ i j l m e. let z : ⊥ = omega arith in absurd z;
      indexed = indexed_none (λ i. start_slot (row_in cells i));
    }

module _ (cells slots : List ℕ) (n : ℕ) (b : Built cells slots n) (r : Row) where
  -- The probe for a row answers what a plain scan over the rows finds.
  pub found : Answers slots n (equal? cells r) (start_slot r) (probe slots (equal? cells r) (start_slot r))
  found =
      answers slots n (λ i. start_slot (row_in cells i)) (equal? cells r) (start_slot r) b.indexed
      (λ i l e. sym (ap start_slot (same_row r (row_in cells i) e)))
      (omega (arith, b.few))
      (λ i j l m e f. b.distinct i j l m (sym (same_row r (row_in cells i) e) ∙ same_row r (row_in cells j) f))

  -- A row that equals none, entered at the slot that its probe found, keeps the state.
  module _ (cells' : List ℕ) (t : ℕ) (few : n < max_rows) (old : (i : ℕ) → i < n → row_in cells' i ≡ row_in cells i) (new : row_in cells' n ≡ r) (fresh : (i : ℕ) → i < n → equal? cells r i ≡ false) (o : Opens slots (start_slot r) t) where
    differs : (i : ℕ) → i < n → row_in cells' n ≡ row_in cells' i → ⊥
    differs i l e =
        let q : r ≡ row_in cells i = sym new ∙ e ∙ old i l in
        subst T (fresh i l) (subst (λ x. T (eq_row r x)) q (eq_row_refl r))

    one : (i j : ℕ) → (i ≡ n) ⊎ (i < n) → (j ≡ n) ⊎ (j < n) → row_in cells' i ≡ row_in cells' j → i ≡ j
    one i j (inl p) (inl q) e = p ∙ sym q
    one i j (inl p) (inr m) e = absurd (differs j m (ap (row_in cells') (sym p) ∙ e))
    one i j (inr l) (inl q) e = absurd (differs i l (ap (row_in cells') (sym q) ∙ sym e))
    one i j (inr l) (inr m) e = b.distinct i j l m (sym (old i l) ∙ e ∙ old j m)

    split : (i : ℕ) → i < suc n → (i ≡ n) ⊎ (i < n)
    split i l = ⊎_elim (λ e. inl (omega arith)) (λ g. inr (omega arith)) (eq-or-lt_of_le l)

    pub built_more : Built cells' (set slots t (suc n)) (suc n)
    built_more =
        record {
          few = few;
          distinct = λ i j l m. one i j (split i l) (split j m);
          indexed =
              indexed_more slots n (λ i. start_slot (row_in cells' i)) t
              (indexed_same (λ i. start_slot (row_in cells i)) (λ i. start_slot (row_in cells' i)) (λ i l. sym (ap start_slot (old i l))) b.indexed)
              (subst (λ s. Opens slots s t) (ap start_slot (sym new)) o);
        }

-- What `find_or_add` does is what a plain scan would do.
module _ (cells slots : List ℕ) (n limit : ℕ) (b : Built cells slots n) (r : Row) (k : Kept r) where
  grows_known : (i : ℕ) → scan n (equal? cells r) ≡ some i → Grows cells slots n limit r (place_at cells slots n limit r (Found (as_row i)))
  grows_known i e =
      record {
        known = λ j q. let u : as_row i ≡ as_row j = cc in let p = ap number u in (ap (placed (rows_below cells n) r) (find_scan r n (row_in cells) ∙ e ∙ ap some p), refl, refl);
        added = λ j q. let z : ◌≡◌ {A = ℕ} 0 1 = cc in let y : ⊥ = omega arith in absurd y;
        full = λ q. let z : ◌≡◌ {A = ℕ} 0 1 = cc in let y : ⊥ = omega arith in absurd y;
        earlier = refl;
        size = refl;
      }

  module _ (t : ℕ) (fresh : (i : ℕ) → i < n → equal? cells r i ≡ false) (e : scan n (equal? cells r) ≡ none) (o : Opens slots (start_slot r) t) where
    grows_full : room_for? cells n limit ≡ false → Grows cells slots n limit r (record { answer = Full; cells = cells; slots = slots })
    grows_full f =
        record {
          known = λ j q. let z : ◌≡◌ {A = ℕ} 0 1 = cc in let y : ⊥ = omega arith in absurd y;
          added = λ j q. let z : ◌≡◌ {A = ℕ} 0 1 = cc in let y : ⊥ = omega arith in absurd y;
          full = λ q. (find_scan r n (row_in cells) ∙ e, f, refl, refl);
          earlier = refl;
          size = refl;
        }

    grows_added : room_for? cells n limit ≡ true → Grows cells slots n limit r (record { answer = Added (as_row n); cells = put_at cells (n * row_cells) (encode_row r); slots = set slots t (n + 1) })
    grows_added f =
        let m = room cells n limit true (sym f) refl in
        let new : rows_below cells n ++ r ∷ [] ≡ rows_below (put_at cells (n * row_cells) (encode_row r)) (n + 1) =
        sym (ap (rows_below (put_at cells (n * row_cells) (encode_row r))) (add-one n) ∙ rows_put cells n r m.fits k) in
        record {
          known = λ j q. let z : ◌≡◌ {A = ℕ} 0 1 = cc in let y : ⊥ = omega arith in absurd y;
          added = λ j q.
              let u : as_row n ≡ as_row j = cc in let p = ap number u in (
                sym p,
                f,
                ap (placed (rows_below cells n) r) (find_scan r n (row_in cells) ∙ e)
                    ∙ (λ i. (new i, length_tab n (row_in cells) i)),
                rw add-one (built_more cells slots n b r (put_at cells (n * row_cells) (encode_row r)) t m.few (row_kept cells n r m.fits) (row_put cells n r m.fits k) fresh o),
              );
          full = λ q. let z : ◌≡◌ {A = ℕ} 0 1 = cc in let y : ⊥ = omega arith in absurd y;
          earlier = put_before cells (n * row_cells) (encode_row r) m.fits;
          size = put_length cells (n * row_cells) (encode_row r) m.fits;
        }

    grows_free : (x : Bool) → room_for? cells n limit ≡ x
        → Grows cells slots n limit r (cond x (record { answer = Added (as_row n); cells = put_at cells (n * row_cells) (encode_row r); slots = set slots t (n + 1) }) (record { answer = Full; cells = cells; slots = slots }))
    grows_free true f = grows_added f
    grows_free false f = grows_full f

  grows_by : {q : Probed} → Answers slots n (equal? cells r) (start_slot r) q → Grows cells slots n limit r (place_at cells slots n limit r q)
  grows_by (known i l t e) = grows_known i e
  grows_by (free t h e o) = grows_free t h e o (room_for? cells n limit) refl

  pub grows : Grows cells slots n limit r (find_or_add cells slots n limit r)
  unfolding find_or_add
  grows = grows_by (found cells slots n b r)
