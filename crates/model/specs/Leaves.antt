-- What an annotation says: a run on its row's tree, in its state, that leaves exactly its memory. Assumes nothing.
use Rattle.std.specs.Prelude.{◌≡◌, List, [], ◌↔◌, ℕ, suc, ◌<◌, T, length, get_or}
use Rattle.std.proofs.Math.Option.{some}
use Rattle.model.specs.Tree.{Tree, at}
use Rattle.model.specs.Automaton.{Automaton, carries?}
use Rattle.model.specs.Table.{Row, tree_at}
use Rattle.model.specs.Run.{Labelling, Above, Forgets, IsRun, Consistent}
use Rattle.model.specs.Annotation.{Memory}

-- no position strictly above p forgets tag k
abbrev pub Remembered : Automaton → Tree → Labelling → ℕ → List ℕ → Type 0
Remembered A t ρ k p = (v : List ℕ) → Forgets A t ρ k v → Above v p → ⊥

-- a position of t whose state carries tag k, with the tree of row j, and no position above it forgets the tag
pub record Tagged (A : Automaton) (rows : List Row) (t : Tree) (ρ : Labelling) (k j : ℕ) : Type 0 where
  pub tag : k < A.tags
  pub row : j < length rows
  pub place : List ℕ
  pub stands : at t place ≡ some (tree_at rows j)
  pub carried : T (carries? A (ρ place) k)
  pub remembered : Remembered A t ρ k place

-- a run on the tree of row i in state q, consistent in its tags, whose tagged subtrees, as far as they are not forgotten, are exactly the rows that m names
pub record RunLeaving (A : Automaton) (rows : List Row) (i q : ℕ) (m : Memory) : Type 0 where
  pub run : Labelling
  pub root : run [] ≡ q
  pub runs : IsRun A (tree_at rows i) run
  pub consistent : Consistent A (tree_at rows i) run
  pub width : length m ≡ A.tags
  pub leaves : (k j : ℕ) → (get_or m k 0 ≡ suc j) ↔ Tagged A rows (tree_at rows i) run k j
