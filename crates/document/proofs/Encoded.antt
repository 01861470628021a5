-- Encoded rows, row by row and place by place. Assumes nothing.
use mathlib.Core.Path.{◌≡◌, ap, ◌∙◌}
use mathlib.Core.List.{List}
use Prim.Native.Nat.{ℕ, ◌+◌, ◌/◌, ◌<◌}
use native.Mathlib.Numerals.{one-add}
use native.Mathlib.Omega.{arith}
use lib.ListN.{length, get_or}
use Rattle.model.specs.Limits.{max_children, unused}
use Rattle.model.specs.Table.{Row, row_at}
use Rattle.model.proofs.Tab.{tab_at}
use Rattle.document.specs.Rows.{row_cells, cell_in, row_in, encode_row, encode_rows, Fits}
use Rattle.document.specs.Check.{place_in}
use Rattle.document.proofs.Encoding.{place_cell, kept, decoded, length_encode, encode_cell}

module _ (rows : List Row) where
  pub encoded_count : length (encode_rows rows) / row_cells ≡ length rows
  encoded_count = let e = length_encode rows in omega arith

  module _ (i : ℕ) (l : i < length rows) where
    pub encoded_row : Fits (row_at rows i) → row_in (encode_rows rows) i ≡ row_at rows i
    encoded_row f = decoded (row_at rows i) (encode_rows rows) i (kept f) (λ k. encode_cell rows i k l)

    -- place k of an encoded row is its child, or unused
    pub encoded_place : (k : ℕ) → k < max_children → place_in (encode_rows rows) i k ≡ get_or (row_at rows i).children k unused
    unfolding place_in
    encoded_place k m =
        tab_at unused max_children (λ k. cell_in (encode_rows rows) i (1 + k)) k m
        ∙ encode_cell rows i (1 + k) l (omega arith)
        ∙ ap (λ j. get_or (encode_row (row_at rows i)) j 0) (one-add k)
        ∙ place_cell (row_at rows i) k m
