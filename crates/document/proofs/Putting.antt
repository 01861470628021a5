-- A row put into a space of rows: the rows before it stay, and it is read back. Assumes nothing.
use mathlib.Core.Path.{◌≡◌, refl, sym, ap, ◌∙◌}
use mathlib.Core.List.{List, [], ◌∷◌, ◌++◌, append_assoc}
use Prim.Native.Nat.{ℕ, zero, suc, ◌+◌, ◌*◌, ◌<◌, ◌≤◌}
use native.Mathlib.Omega.{arith}
use lib.ListN.{length, get_or, take, drop, get_or-append}
use lib.Seq.{get_or-take, get_or-append-add, length-take-le}
use Rattle.model.specs.Limits.{max_children}
use Rattle.model.specs.Lists.{tab}
use Rattle.model.specs.Space.{put_at}
use Rattle.model.specs.Table.{Row}
use Rattle.model.proofs.Space.{put_fits}
use Rattle.automaton.proofs.Parts.{tab_same}
use Rattle.document.specs.Rows.{row_cells, cell_in, used, join_cells, row_in, rows_below, encode_row, Kept}
use Rattle.document.proofs.Encoding.{decoded}

tab_more : {A : Type 0} (n : ℕ) (f : ℕ → A) → tab (suc n) f ≡ tab n f ++ f n ∷ []
tab_more zero f = refl
tab_more (suc n) f = ap (λ xs. f 0 ∷ xs) (tab_more n (λ k. f (suc k)))

module _ (out : List ℕ) (i : ℕ) (r : Row) (h : i * row_cells + row_cells ≤ length out) where
  put_here : put_at out (i * row_cells) (encode_row r) ≡ take (i * row_cells) out ++ (encode_row r ++ drop (i * row_cells + row_cells) out)
  put_here = put_fits out (i * row_cells) (encode_row r) h ∙ append_assoc (take (i * row_cells) out) (encode_row r) (drop (i * row_cells + row_cells) out)

  front : length (take (i * row_cells) out) ≡ i * row_cells
  front = length-take-le (i * row_cells) out (omega arith)

  cell_kept : (j k : ℕ) → j < i → k < row_cells → cell_in (put_at out (i * row_cells) (encode_row r)) j k ≡ cell_in out j k
  unfolding cell_in
  cell_kept j k l m =
      ap (λ xs. get_or xs (j * row_cells + k) 0) put_here
      ∙ get_or-append (take (i * row_cells) out) (encode_row r ++ drop (i * row_cells + row_cells) out) 0 (j * row_cells + k) (rw front (omega arith))
      ∙ get_or-take (i * row_cells) out (j * row_cells + k) 0 (omega arith)

  cell_put : (k : ℕ) → k < row_cells → cell_in (put_at out (i * row_cells) (encode_row r)) i k ≡ get_or (encode_row r) k 0
  unfolding cell_in
  cell_put k m =
      ap (λ xs. get_or xs (i * row_cells + k) 0) put_here
      ∙ ap (λ n. get_or (take (i * row_cells) out ++ (encode_row r ++ drop (i * row_cells + row_cells) out)) (n + k) 0) (sym front)
      ∙ get_or-append-add (take (i * row_cells) out) (encode_row r ++ drop (i * row_cells + row_cells) out) k 0
      ∙ get_or-append (encode_row r) (drop (i * row_cells + row_cells) out) 0 k m

  pub row_kept : (j : ℕ) → j < i → row_in (put_at out (i * row_cells) (encode_row r)) j ≡ row_in out j
  row_kept j l =
      λ x. record {
        symbol = cell_kept j 0 l (omega arith) x;
        kind = cell_kept j 5 l (omega arith) x;
        payload = ap join_cells (tab_same 4 (λ k. cell_in (put_at out (i * row_cells) (encode_row r)) j (6 + k)) (λ k. cell_in out j (6 + k)) (λ k m. cell_kept j (6 + k) l (omega arith))) x;
        children = ap used (tab_same max_children (λ k. cell_in (put_at out (i * row_cells) (encode_row r)) j (1 + k)) (λ k. cell_in out j (1 + k)) (λ k m. cell_kept j (1 + k) l (omega arith))) x;
      }

  pub row_put : Kept r → row_in (put_at out (i * row_cells) (encode_row r)) i ≡ r
  row_put f = decoded r (put_at out (i * row_cells) (encode_row r)) i f cell_put

  -- The first rows of the space are those that were there, and the one that was put behind them.
  pub rows_put : Kept r → rows_below (put_at out (i * row_cells) (encode_row r)) (suc i) ≡ rows_below out i ++ r ∷ []
  rows_put f =
      tab_more i (row_in (put_at out (i * row_cells) (encode_row r)))
      ∙ ap (λ rows. rows ++ row_in (put_at out (i * row_cells) (encode_row r)) i ∷ []) (tab_same i (row_in (put_at out (i * row_cells) (encode_row r))) (row_in out) row_kept)
      ∙ ap (λ x. rows_below out i ++ x ∷ []) (row_put f)
