-- What callers read of a lent table by index, in terms of the rows that it holds; of one that passed the check, that children are lower and where they stand. Assumes nothing.
use mathlib.Core.Path.{◌≡◌, sym, ap, ◌∙◌}
use mathlib.Core.List.{List}
use Prim.Native.Nat.{ℕ, ◌<◌, ◌≤◌}
use native.Mathlib.Omega.{arith}
use lib.ListN.{length, get_or}
use Rattle.model.specs.Limits.{max_rows}
use Rattle.model.specs.Automaton.{arity_of}
use Rattle.model.specs.Table.{row_at}
use Rattle.model.proofs.Tab.{tab_at}
use Rattle.automaton.specs.Stored.{decode}
use Rattle.automaton.specs.Check.{check_of}
use Rattle.automaton.proofs.Sound.{sound_decode}
use Rattle.document.specs.Rows.{row_in, decode_rows}
use Rattle.document.specs.Check.{row_count, place_in, arity_in, form_check_of, table_check_of, document_check_of}
use Rattle.document.proofs.Places.{row_at_lem}
use Rattle.document.proofs.Refusals.{both_passed}
use Rattle.document.proofs.Form.{Formed, formed, children_are, place_lower}

-- a row that is read by index is the table's row
module _ (cells : List ℕ) (i x : ℕ) (l : i < row_count cells) where
  pub symbol_at : x ≡ (row_in cells i).symbol → x ≡ (row_at (decode_rows cells) i).symbol
  symbol_at e = e ∙ ap (λ r. r.symbol) (sym (row_at_lem cells i l))

  pub kind_at : x ≡ (row_in cells i).kind → x ≡ (row_at (decode_rows cells) i).kind
  kind_at e = e ∙ ap (λ r. r.kind) (sym (row_at_lem cells i l))

  pub payload_at : x ≡ (row_in cells i).payload → x ≡ (row_at (decode_rows cells) i).payload
  payload_at e = e ∙ ap (λ r. r.payload) (sym (row_at_lem cells i l))

-- a table that passed the check
module _ (set cells : List ℕ) (h : document_check_of set cells ≡ 0) where
  form : Formed (decode set) cells
  unfolding table_check_of
  form = formed (decode set) cells (both_passed (form_check_of (decode set) cells) _ (both_passed (check_of set) (table_check_of (decode set) cells) h).1).0

  few_children : (s : ℕ) → arity_of (decode set) s ≤ 4
  few_children = (sound_decode set (both_passed (check_of set) (table_check_of (decode set) cells) h).0).few_children

  pub some_rows : 0 < row_count cells
  some_rows = form.counted.some

  pub few_rows : row_count cells ≤ max_rows
  few_rows = form.counted.few

  module _ (i : ℕ) (l : i < row_count cells) where
    pub symbol_known : (x : ℕ) → x ≡ (row_in cells i).symbol → x < length (decode set).arities
    symbol_known x e = rw e (form.known i l)

    module _ (k x : ℕ) (m : k < arity_of (decode set) (row_in cells i).symbol) (e : x ≡ place_in cells i k) where
      -- a child's number is below its row's
      pub child_below : x < i
      child_below = rw e (place_lower cells i (arity_in (decode set) cells i) (form.places i l) (few_children (row_in cells i).symbol) (omega (arith, few_rows)) k m)

      -- and is that of the table's row, whichever the default
      pub child_at_lem : (d : ℕ) → x ≡ get_or (row_at (decode_rows cells) i).children k d
      child_at_lem d =
          e
          ∙ sym (tab_at d (arity_in (decode set) cells i) (place_in cells i) k m)
          ∙ ap (λ cs. get_or cs k d) (sym (children_are (decode set) cells few_children form i l))
          ∙ ap (λ r. get_or r.children k d) (sym (row_at_lem cells i l))

pub ruleset lent = (symbol_at, kind_at, payload_at, some_rows, few_rows, symbol_known, child_below, child_at_lem)
