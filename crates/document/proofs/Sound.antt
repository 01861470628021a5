-- The table check means what document 01, section "Documents", says of a table. Assumes nothing.
use mathlib.Core.Path.{◌≡◌, refl, sym, ap, ◌∙◌, subst}
use mathlib.Core.List.{List}
use mathlib.Core.Bool.{Bool, true, false}
use Prim.Native.Nat.{ℕ, zero, suc, ◌%◌, ◌<◌, ◌≤◌}
use native.Mathlib.Nat.{mul-mod_left}
use native.Mathlib.Omega.{arith}
use borrow.Author.Tests.{ltb-true, ltb-false, lt-ltb, eq-eqb, ne_eqb}
use lib.Dec.{ltb}
use lib.ListN.{length, get_or, get_or-eq_default}
use Rattle.model.specs.Limits.{max_children, unused}
use Rattle.model.specs.Automaton.{Automaton, arity_of}
use Rattle.model.specs.Sound.{Sound}
use Rattle.model.specs.Table.{Row, row_at, scalar?, SoundTable}
use Rattle.model.proofs.Members.{T_true}
use Rattle.model.proofs.Scalars.{few_scalars}
use Rattle.model.proofs.Rows.{in_get_d}
use Rattle.automaton.specs.Stored.{decode}
use Rattle.automaton.specs.Check.{check_of}
use Rattle.automaton.proofs.Parts.{all_of}
use Rattle.automaton.proofs.Sound.{sound_decode}
use Rattle.document.specs.Rows.{row_cells, row_in, decode_rows, encode_rows, Fits}
use Rattle.document.specs.Check.{row_count, place_in, place?, child?, arity_in, scalar_for?, form_check_of, distinct_check_of, used_check_of, table_check_of, document_check_of}
use Rattle.document.proofs.Places.{rows_length}
use Rattle.document.proofs.Refusals.{both_passed, both_pass}
use Rattle.document.proofs.Form.{Formed, formed, form_passes, rows_sound, rows_lower}
use Rattle.document.proofs.Whole.{distinct, distinct_passes, all_used, used_passes, low, low_passes}
use Rattle.document.proofs.Encoding.{length_encode, decode_encode}
use Rattle.document.proofs.Encoded.{encoded_count, encoded_row, encoded_place}

-- A table that the check does not refuse is sound: its rows are few, each fits its symbol, children are lower, no two rows are equal, all but the last are used, and the levels are at most 256.
pub sound_table : (A : Automaton) (cells : List ℕ) → ((s : ℕ) → arity_of A s ≤ max_children) → table_check_of A cells ≡ 0 → SoundTable A (decode_rows cells)
unfolding table_check_of
sound_table A cells few h =
    let (h₁, g₁) = both_passed (form_check_of A cells) _ h in
    let (h₂, g₂) = both_passed (distinct_check_of (decode_rows cells)) _ g₁ in
    let (h₃, h₄) = both_passed (used_check_of (decode_rows cells)) _ g₂ in
    let f = formed A cells h₁ in
    record {
      some_row = rw (rows_length cells) f.counted.some;
      few_rows = rw (rows_length cells) f.counted.few;
      each = rows_sound A cells few f;
      lower = rows_lower A cells few f;
      distinct = distinct (decode_rows cells) h₂;
      used = all_used (decode_rows cells) h₃;
      low = low (decode_rows cells) h₄;
    }

module _ (A : Automaton) (rows : List Row) (sound : Sound A) (table : SoundTable A rows) where
  module _ (i : ℕ) (l : i < length rows) where
    row_fits : Fits (row_at rows i)
    row_fits =
        let r = table.each i l in
        let s = few_scalars (row_at rows i).kind (row_at rows i).payload r.scalar in
        record {
          symbol = omega (arith, r.known, sound.few_symbols);
          few = rw r.as_many (sound.few_children (row_at rows i).symbol);
          places = λ j m. omega (arith, table.lower i l j m, table.few_rows);
          kind = omega arith;
          payload = s.1;
        }

    row_back : row_in (encode_rows rows) i ≡ row_at rows i
    row_back = encoded_row rows i l row_fits

    place_ok : (k : ℕ) → k < max_children → child? (encode_rows rows) i (arity_in A (encode_rows rows) i) k ≡ true
    unfolding child?
    place_ok k m =
        subst (λ r. place? (ltb k (arity_of A r.symbol)) i (place_in (encode_rows rows) i k) ≡ true) (sym row_back)
        (subst (λ x. place? (ltb k (arity_of A (row_at rows i).symbol)) i x ≡ true) (sym (encoded_place rows i l k m))
        (go (ltb k (arity_of A (row_at rows i).symbol)) refl))
      where
        many : length (row_at rows i).children ≡ arity_of A (row_at rows i).symbol
        many = (table.each i l).as_many

        go : (b : Bool) → ltb k (arity_of A (row_at rows i).symbol) ≡ b → place? b i (get_or (row_at rows i).children k unused) ≡ true
        go true e =
            lt-ltb (get_or (row_at rows i).children k unused) i
            (table.lower i l (get_or (row_at rows i).children k unused) (in_get_d unused (row_at rows i).children k (rw many (ltb-true k (arity_of A (row_at rows i).symbol) e))))
        go false e =
            eq-eqb (get_or (row_at rows i).children k unused) unused
            (get_or-eq_default (row_at rows i).children unused (rw many (ltb-false k (arity_of A (row_at rows i).symbol) e)))

    scalar_ok : scalar_for? (arity_in A (encode_rows rows) i) (row_in (encode_rows rows) i).kind (row_in (encode_rows rows) i).payload ≡ true
    scalar_ok = subst (λ r. scalar_for? (arity_of A r.symbol) r.kind r.payload ≡ true) (sym row_back) (go (arity_of A (row_at rows i).symbol) refl)
      where
        go : (a : ℕ) → arity_of A (row_at rows i).symbol ≡ a → scalar_for? a (row_at rows i).kind (row_at rows i).payload ≡ true
        go zero e = (T_true (scalar? (row_at rows i).kind (row_at rows i).payload)).0 (table.each i l).scalar
        go (suc a) e =
            let (k, p) = (table.each i l).bare (omega arith) in
            rw (ne_eqb (suc a) 0 (λ q. omega arith), k, p)

  formed_rows : Formed A (encode_rows rows)
  formed_rows =
      record {
        counted = record { rows = refl; some = rw (encoded_count rows) table.some_row; few = rw (encoded_count rows) table.few_rows };
        whole = ap (λ n. n % row_cells) (length_encode rows) ∙ mul-mod_left (length rows) row_cells;
        known = λ i l. let m = inside i l in subst (λ r. r.symbol < length A.arities) (sym (row_back i m)) (table.each i m).known;
        places = λ i l. let m = inside i l in all_of max_children (child? (encode_rows rows) i (arity_in A (encode_rows rows) i)) (place_ok i m);
        scalars = λ i l. scalar_ok i (inside i l);
      }
    where
      inside : (i : ℕ) → i < row_count (encode_rows rows) → i < length rows
      inside i l = rw (encoded_count rows) at l

  -- The check lets every sound table of a sound set pass.
  pub table_passes : table_check_of A (encode_rows rows) ≡ 0
  unfolding table_check_of
  table_passes =
      both_pass (form_check_of A (encode_rows rows)) _ (form_passes A (encode_rows rows) formed_rows)
      (rw (decode_encode rows row_fits)
      (both_pass (distinct_check_of rows) _ (distinct_passes rows table.distinct)
      (both_pass (used_check_of rows) _ (used_passes rows table.used) (low_passes rows table.low))))

-- The rows of a sound table come back from their cells.
pub rows_back : (A : Automaton) (rows : List Row) → Sound A → SoundTable A rows → decode_rows (encode_rows rows) ≡ rows
rows_back A rows sound table = decode_encode rows (row_fits A rows sound table)

-- A set and rows that the whole check does not refuse are a sound automaton and a sound table of it; and it lets those pass.
pub sound_document : (set cells : List ℕ) → document_check_of set cells ≡ 0 → Sound (decode set) × SoundTable (decode set) (decode_rows cells)
sound_document set cells h =
    let (s, t) = both_passed (check_of set) (table_check_of (decode set) cells) h in
    let a = sound_decode set s in
    (a, sound_table (decode set) cells a.few_children t)

pub document_passes : (set : List ℕ) (rows : List Row) → check_of set ≡ 0 → SoundTable (decode set) rows → document_check_of set (encode_rows rows) ≡ 0
document_passes set rows s t = both_pass (check_of set) (table_check_of (decode set) (encode_rows rows)) s (table_passes (decode set) rows (sound_decode set s) t)
