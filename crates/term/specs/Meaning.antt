-- What rows are that were read from a text. Assumes nothing.
use Rattle.std.specs.Prelude.{◌≡◌, List, ℕ, length}
use Rattle.model.specs.Tree.{Tree}
use Rattle.model.specs.Table.{Row, tree_of, SoundTable}
use Rattle.model.specs.Build.{rows_of}
use Rattle.automaton.specs.Stored.{decode}
use Rattle.document.specs.Rows.{encode_rows}
use Rattle.document.specs.Check.{document_check_of}
use Rattle.names.specs.Names.{find_name}
use Rattle.term.specs.Spelling.{TermAt}

-- The whole text spells a tree by the names shown; the rows are a sound table of it, in order of first finishing, and their cells pass 11 to 17.
pub record RowsOfText (set site built_in text : List ℕ) (rows : List Row) : Type 0 where
  pub tree : Tree
  pub spelled : TermAt (find_name (length (decode set).arities) site built_in) text 0 tree (length text)
  pub first_finishing : rows ≡ rows_of tree
  pub same_tree : tree_of rows ≡ tree
  pub sound : SoundTable (decode set) rows
  pub passes : document_check_of set (encode_rows rows) ≡ 0
