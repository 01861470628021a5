-- Rows to cells and back: what encodes a row decodes to it. Assumes nothing.
use mathlib.Core.Path.{◌≡◌, refl, ap, ◌∙◌}
use mathlib.Core.Bool.{Bool, true, false, cond}
use mathlib.Core.List.Memᴰ.{head as here}
use mathlib.Core.List.Memᴰ.{tail as there}
use mathlib.Core.List.{List, [], ◌∷◌, Memᴰ as In, nil≢cons}
use Prim.Native.Nat.{ℕ, zero, suc, ◌+◌, ◌*◌, ◌/◌, ◌%◌, ◌^◌, ◌<◌, ◌≤◌, zero-le}
use native.Mathlib.Nat.{zero-add, pow-suc, mod-add-div}
use native.Mathlib.Omega.{arith}
use lib.Dec.{eqb}
use lib.ListN.{length, get_or, length-append, get_or-append}
use lib.Seq.{ext_get_or, get_or-append-add}
use borrow.Author.Tests.{ne_eqb}
use Rattle.model.specs.Limits.{max_children, unused}
use Rattle.model.specs.Lists.{tab}
use Rattle.model.specs.Table.{Row, no_row, row_at}
use Rattle.model.proofs.Tab.{tab_at, length_tab}
use Rattle.automaton.proofs.Parts.{tab_same}
use Rattle.document.specs.declared.fields.RowFields.{RowFields}
use Rattle.document.specs.Scalars.{payload_of}
use Rattle.document.specs.Fields.{numbers_of, fields_row}
use Rattle.document.specs.Rows.{row_cells, cell_in, used, places_in, join_cells, payload_in, row_in, rows_below, decode_rows, places_of, split_cells, encode_row, encode_rows, Fits, Kept}
use Rattle.document.proofs.Numbers.{numbers_length}

-- ---- child places

pub used_used : (ps : List ℕ) → used (used ps) ≡ used ps
used_used [] = refl
used_used (x ∷ ps) = go (eqb x unused) refl (used_used ps)
  where
    go : (b : Bool) → eqb x unused ≡ b → used (used ps) ≡ used ps → used (cond b [] (x ∷ used ps)) ≡ cond b [] (x ∷ used ps)
    go true e i = refl
    go false e i = rw e (ap {B = List ℕ} (λ l. x ∷ l) i)

pub length_used : (ps : List ℕ) → length (used ps) ≤ length ps
length_used [] = zero-le
length_used (x ∷ ps) = go (eqb x unused) (length_used ps)
  where
    go : (b : Bool) → length (used ps) ≤ length ps → length (cond b [] (x ∷ used ps)) ≤ suc (length ps)
    go true l = zero-le
    go false l = omega arith

-- no child is numbered as an unused place
pub all_used : (cs : List ℕ) → ((j : ℕ) → In j cs → j < unused) → used cs ≡ cs
all_used [] h = refl
all_used (x ∷ cs) h = let l = h x (here refl) in rw (ne_eqb x unused (λ e. omega arith)) (ap {B = List ℕ} (λ l. x ∷ l) (all_used cs (λ j m. h j (there m))))

-- n places hold as many children
pub used_places : (n : ℕ) (cs : List ℕ) → length cs ≤ n → used cs ≡ cs → used (tab n (λ k. get_or cs k unused)) ≡ cs
used_places zero [] l e = refl
used_places zero (x ∷ cs) l e = let z : ⊥ = omega arith in absurd z
used_places (suc n) [] l e = refl
used_places (suc n) (x ∷ cs) l e = go (eqb x unused) e (used_places n cs (omega arith))
  where
    go : (b : Bool) → cond b [] (x ∷ used cs) ≡ x ∷ cs → (used cs ≡ cs → used (tab n (λ k. get_or cs k unused)) ≡ cs) → cond b [] (x ∷ used (tab n (λ k. get_or cs k unused))) ≡ x ∷ cs
    go true q i = absurd (nil≢cons q)
    go false q i = let t : used cs ≡ cs = cc in ap {B = List ℕ} (λ r. x ∷ r) (i t)

-- ---- payloads

pub join_split : (n x : ℕ) → x < 65536 ^ n → join_cells (split_cells n x) ≡ x
join_split zero x h = omega arith
join_split (suc n) x h =
    let l : x < 65536 ^ n * 65536 = rw pow-suc at h in
    ap (λ y. x % 65536 + 65536 * y) (join_split n (x / 65536) (omega arith)) ∙ mod-add-div x 65536

-- ---- a row, then rows

pub kept : {r : Row} → Fits r → Kept r
kept {r} f = record { few = f.few; used_all = all_used r.children f.places; payload = f.payload }

-- A row by value is kept: its places are four, and its payload x fits.
pub kept_fields : (f : RowFields) (x : ℕ) → x ≡ payload_of f.scalar → x < 2 ^ 64 → length f.places ≡ max_children → Kept (fields_row f)
kept_fields f x e h l =
    record {
      few = let m = length_used (numbers_of f.places) in let n = numbers_length f.places max_children l in omega arith;
      used_all = used_used (numbers_of f.places);
      payload = rw (← e) h;
    }

module _ (r : Row) where
  pub place_cell : (k : ℕ) → k < max_children → get_or (encode_row r) (suc k) 0 ≡ get_or r.children k unused
  place_cell k h =
      get_or-append (places_of r.children) (r.kind ∷ split_cells 4 r.payload) 0 k h
      ∙ tab_at 0 max_children (λ j. get_or r.children j unused) k h

  -- Cells that are those of a row decode to it.
  pub decoded : (cells : List ℕ) (i : ℕ) → Kept r → ((k : ℕ) → k < row_cells → cell_in cells i k ≡ get_or (encode_row r) k 0) → row_in cells i ≡ r
  decoded cells i f h =
      λ x. record { symbol = h 0 (omega arith) x; kind = h 5 (omega arith) x; payload = value x; children = places x }
    where
      one_more : (k : ℕ) → 1 + k ≡ suc k
      one_more k = omega arith

      value : payload_in cells i ≡ r.payload
      value =
          ap join_cells (tab_same 4 (λ k. cell_in cells i (6 + k)) (λ k. get_or (encode_row r) (6 + k) 0) (λ k l. h (6 + k) (omega arith)))
          ∙ join_split 4 r.payload f.payload

      places : used (places_in cells i) ≡ r.children
      places =
          ap used (tab_same max_children (λ k. cell_in cells i (1 + k)) (λ k. get_or r.children k unused)
          (λ k l. h (1 + k) (omega arith) ∙ ap (λ j. get_or (encode_row r) j 0) (one_more k) ∙ place_cell k l))
          ∙ used_places max_children r.children f.few f.used_all

pub length_encode : (rows : List Row) → length (encode_rows rows) ≡ length rows * row_cells
length_encode [] = refl
length_encode (r ∷ rows) = let e = length_encode rows in length-append (encode_row r) (encode_rows rows) ∙ omega arith

-- the cells of row i among those of all rows
pub encode_cell : (rows : List Row) (i k : ℕ) → i < length rows → k < row_cells → cell_in (encode_rows rows) i k ≡ get_or (encode_row (row_at rows i)) k 0
unfolding cell_in
encode_cell [] i k h l = let z : ⊥ = omega arith in absurd z
encode_cell (r ∷ rows) zero k h l = rw zero-add (get_or-append (encode_row r) (encode_rows rows) 0 k l)
encode_cell (r ∷ rows) (suc i) k h l =
    let e : suc i * row_cells + k ≡ 10 + (i * row_cells + k) = omega arith in
    ap (λ j. get_or (encode_rows (r ∷ rows)) j 0) e
    ∙ get_or-append-add (encode_row r) (encode_rows rows) (i * row_cells + k) 0
    ∙ encode_cell rows i k (omega arith) l

-- Rows that fit their cells come back unchanged.
pub decode_encode : (rows : List Row) → ((i : ℕ) → i < length rows → Fits (row_at rows i)) → decode_rows (encode_rows rows) ≡ rows
decode_encode rows h = ap (rows_below (encode_rows rows)) count ∙ each
  where
    count : length (encode_rows rows) / row_cells ≡ length rows
    count = let e = length_encode rows in omega arith

    each : tab (length rows) (row_in (encode_rows rows)) ≡ rows
    each =
        ext_get_or no_row (tab (length rows) (row_in (encode_rows rows))) rows (length_tab (length rows) (row_in (encode_rows rows)))
        (λ i l. let m : i < length rows = rw length_tab at l in
        tab_at no_row (length rows) (row_in (encode_rows rows)) i m
        ∙ decoded (row_at rows i) (encode_rows rows) i (kept (h i m)) (λ k. encode_cell rows i k m))
