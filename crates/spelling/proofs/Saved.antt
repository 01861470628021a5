-- A table is written the same with name lists that differ only in the spaces and bytes 13 at the ends of their lines (document 02, Wish 5). Assumes nothing.
use mathlib.Core.Path.{◌≡◌, ap, ◌∙◌}
use mathlib.Core.List.{List}
use Prim.Native.Nat.{ℕ}
use lib.ListN.{length}
use Rattle.model.specs.Table.{tree_of}
use Rattle.automaton.specs.Stored.{decode}
use Rattle.automaton.specs.Check.{check_of}
use Rattle.names.specs.Check.{names_check_of}
use Rattle.names.specs.Saved.{SavedAlike}
use Rattle.names.proofs.Saved.{same_names, same_check}
use Rattle.document.specs.Rows.{decode_rows}
use Rattle.document.specs.Check.{table_check_of}
use Rattle.spelling.specs.Text.{term_text}
use Rattle.spelling.specs.Write.{fitted, unless_refused, table_text, write_of}

module _ (set cells site site' built_in builtIn' : List ℕ) (space : ℕ) (v : SavedAlike site site') (w : SavedAlike built_in builtIn') where
  same_text : table_text site built_in cells ≡ table_text site' builtIn' cells
  same_text = ap (λ names. term_text names (tree_of (decode_rows cells))) (same_names site site' built_in builtIn' v w)

  pub same_writing : write_of set site built_in cells space ≡ write_of set site' builtIn' cells space
  unfolding write_of
  same_writing =
      let symbols = length (decode set).arities in
      ap (λ n. unless_refused (check_of set) (unless_refused n (unless_refused (table_check_of (decode set) cells) (fitted space (table_text site built_in cells)))))
      (same_check site site' built_in builtIn' v w symbols)
      ∙ ap (λ t. unless_refused (check_of set) (unless_refused (names_check_of symbols site' builtIn') (unless_refused (table_check_of (decode set) cells) (fitted space t)))) same_text
