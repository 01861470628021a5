-- What an answer means: a document that a set lets in, and the sample (document 01, sections "Runs" and "Joining, demanding both, and the sample"). Assumes nothing.
use Rattle.std.specs.Prelude.{◌≡◌, List, ◌++◌, ℕ, ◌*◌, ◌≤◌, length, drop}
use Rattle.model.specs.Tree.{Tree, levels}
use Rattle.model.specs.Run.{Accepts}
use Rattle.model.specs.Table.{tree_of}
use Rattle.model.specs.Build.{rows_of}
use Rattle.automaton.specs.Stored.{decode}
use Rattle.document.specs.Rows.{row_cells, decode_rows, encode_rows}
use Rattle.document.specs.Check.{document_check_of}
use Rattle.emptiness.specs.Answer.{space_after}

-- The cells hold a document that the set lets in: a table that no number refuses, of an accepted tree.
pub record LetIn (set cells : List ℕ) : Type 0 where
  pub passes : document_check_of set cells ≡ 0
  pub accepted : Accepts (decode set) (tree_of (decode_rows cells))

-- What a live answer means: the tree of the rows at the front of the space, a document that the set lets in.
pub record Sample (set cells : List ℕ) (n h : ℕ) : Type 0 where
  pub tree : Tree
  pub rows : n ≡ length (rows_of tree)
  pub height : h ≡ levels tree
  pub space : space_after set cells ≡ encode_rows (rows_of tree) ++ drop (n * row_cells) cells
  pub let_in : LetIn set (encode_rows (rows_of tree))
  pub tree_is : tree_of (rows_of tree) ≡ tree
  pub accepted : Accepts (decode set) tree
  pub no_lower : (t : Tree) → Accepts (decode set) t → levels tree ≤ levels t
