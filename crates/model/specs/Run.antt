-- Runs and acceptance: document 01, section "Runs"; "lets in" there is `Accepts` here. Assumes nothing.
use Rattle.std.specs.Prelude.{◌≡◌, ◌↔◌, ℕ, ◌<◌, T, length, get_or}
use mathlib.Core.List.{List, [], ◌∷◌, ◌++◌, Memᴰ as In}
use Rattle.std.proofs.Math.Option.{some}
use Rattle.model.specs.Tree.{Tree, at, symbol_of, children_of}
use Rattle.model.specs.Automaton.{Rule, Automaton, final?, carries?, forgets?}

-- A labelling of positions with states; only the positions of the tree at hand matter.
abbrev pub Labelling : Type 0
Labelling = List ℕ → ℕ

-- A rule leads from the children's states to the state at position p, where the subtree u stands.
pub record Move (A : Automaton) (ρ : Labelling) (p : List ℕ) (u : Tree) : Type 0 where
  pub rule : Rule
  pub listed : In rule A.rules
  pub same_symbol : rule.symbol ≡ symbol_of u
  pub leads : rule.target ≡ ρ p
  pub as_many : length rule.children ≡ length (children_of u)
  pub from : (j : ℕ) → j < length (children_of u) → get_or rule.children j 0 ≡ ρ (p ++ j ∷ [])

abbrev pub IsRun : Automaton → Tree → Labelling → Type 0
IsRun A t ρ = (p : List ℕ) (u : Tree) → at t p ≡ some u → Move A ρ p u

-- Position v is strictly above position p.
abbrev pub Above : List ℕ → List ℕ → Type 0
Above v [] = ⊥
Above [] (j ∷ p) = Unit {0}
Above (i ∷ v) (j ∷ p) = (i ≡ j) × Above v p

-- The rule that leads to the state at position v forgets tag k.
pub record Forgets (A : Automaton) (t : Tree) (ρ : Labelling) (k : ℕ) (v : List ℕ) : Type 0 where
  pub tree : Tree
  pub stands : at t v ≡ some tree
  pub move : Move A ρ v tree
  pub forgotten : T (forgets? move.rule k)

-- Tag k is not forgotten between p and p': where it is forgotten at a position, both stand strictly below that position or neither does.
-- Source document 000, section 3: the constraint "is no longer enforced between" positions "strictly dominated by" that position "and [positions] elsewhere".
abbrev pub Together : Automaton → Tree → Labelling → ℕ → List ℕ → List ℕ → Type 0
Together A t ρ k p p' = (v : List ℕ) → Forgets A t ρ k v → Above v p ↔ Above v p'

-- For each tag, the subtrees at two positions whose states carry it are equal, unless it is forgotten between them.
abbrev pub Consistent : Automaton → Tree → Labelling → Type 0
Consistent A t ρ =
    (k : ℕ) → k < A.tags → (p p' : List ℕ) (u u' : Tree) → at t p ≡ some u → at t p' ≡ some u'
    → T (carries? A (ρ p) k) → T (carries? A (ρ p') k) → Together A t ρ k p p' → u ≡ u'

-- The same without forgetting (document 01, section "Runs"): for each tag, all subtrees at positions whose state carries that tag are equal.
abbrev pub AllEqual : Automaton → Tree → Labelling → Type 0
AllEqual A t ρ =
    (k : ℕ) → k < A.tags → (p p' : List ℕ) (u u' : Tree) → at t p ≡ some u → at t p' ≡ some u'
    → T (carries? A (ρ p) k) → T (carries? A (ρ p') k) → u ≡ u'

-- An accepting run exists.
pub record Accepts (A : Automaton) (t : Tree) : Type 0 where
  pub run : Labelling
  pub runs : IsRun A t run
  pub accepting : T (final? A (run []))
  pub consistent : Consistent A t run

-- The same without forgetting.
pub record AcceptsPlain (A : Automaton) (t : Tree) : Type 0 where
  pub run : Labelling
  pub runs : IsRun A t run
  pub accepting : T (final? A (run []))
  pub equal : AllEqual A t run
