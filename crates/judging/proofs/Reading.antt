-- What the functions over the work space read: an annotation's cells, and the part of the space that holds its memory. Assumes nothing.
use mathlib.Core.Path.{◌≡◌, refl, sym, ap, ◌∙◌}
use mathlib.Core.List.{List}
use mathlib.Core.Bool.{Bool, true, false, ◌&&◌}
use Prim.Native.Nat.{ℕ, ◌+◌, ◌*◌, ◌-◌, ◌<◌, ◌≤◌}
use native.Mathlib.Omega.{arith}
use borrow.Author.Rules.{rules}
use borrow.Author.Tests.{eq-eqb, ne_eqb}
use lib.Dec.{eqb}
use lib.ListN.{get_or, take, drop}
use lib.Seq.{get_or-take, get_or-drop}
use Rattle.model.specs.Lists.{eq_list}
use Rattle.model.specs.Annotation.{Memory, annotation, agree?, joined, eq_annotation}
use Rattle.automaton.proofs.Parts.{tab_same}
use Rattle.membership.specs.Cells.{memory_of, JoinedIn, cell_of, memory_in, annotation_in}
use Rattle.judging.specs.Cells.{Short, AgreeIn, SameIn, ShortIn}
use Rattle.membership.specs.Search.{choosable?, JoinedWith}

module _ (work : List ℕ) (tags j : ℕ) where
  -- the part of the space that holds the memory
  abbrev part : List ℕ
  part = take (j * 32 + 18 - (j * 32 + 2)) (drop (j * 32 + 2) work)

  part_at : (k : ℕ) → k < 16 → get_or part k 0 ≡ cell_of work j (2 + k)
  unfolding cell_of
  part_at k h =
      let e : j * 32 + 2 + k ≡ j * 32 + (2 + k) = omega arith in
      get_or-take (j * 32 + 18 - (j * 32 + 2)) (drop (j * 32 + 2) work) k 0 (omega arith) ∙ get_or-drop (j * 32 + 2) work k 0 ∙ ap (λ i. get_or work i 0) e

  part_short : ShortIn tags work j → Short tags part
  part_short h k l m = part_at k m ∙ h k l m

  module _ (few : tags ≤ 16) where
    memory_part : memory_of tags part ≡ memory_in tags work j
    unfolding memory_of memory_in
    memory_part = tab_same tags (λ k. get_or part k 0) (λ k. cell_of work j (2 + k)) (λ k h. part_at k (omega arith))

    pub choice_agrees : (q : ℕ) (m : List ℕ) (r : Bool) → get_or work (j * 32 + 1) 0 ≡ q → AgreeIn m part r → Short tags m → ShortIn tags work j → r ≡ choosable? q (memory_of tags m) (annotation_in tags work j)
    unfolding cell_of
    choice_agrees q m r es e x y = e tags few x (part_short y) ∙ ap (agree? (memory_of tags m)) memory_part ∙ sym (ap (λ b. b && agree? (memory_of tags m) (memory_in tags work j)) (eq-eqb _ _ es))

    pub same_memory : (i q : ℕ) (m : List ℕ) (r : Bool) → i ≡ get_or work (j * 32 + 0) 0 → q ≡ get_or work (j * 32 + 1) 0 → SameIn m part r → Short tags m → ShortIn tags work j → r ≡ eq_annotation (annotation i q (memory_of tags m)) (annotation_in tags work j)
    unfolding cell_of
    same_memory i q m r er es e x y =
        e tags few x (part_short y) ∙ ap (eq_list (memory_of tags m)) memory_part
        ∙ sym (ap (λ b. b && eq_list (memory_of tags m) (memory_in tags work j)) (eq-eqb q (get_or work (j * 32 + 1) 0) es))
        ∙ sym (ap (λ b. b && (eqb q (get_or work (j * 32 + 1) 0) && eq_list (memory_of tags m) (memory_in tags work j))) (eq-eqb i (get_or work (j * 32 + 0) 0) er))

  pub choice_other : (q : ℕ) (m : Memory) → (get_or work (j * 32 + 1) 0 ≡ q → ⊥) → false ≡ choosable? q m (annotation_in tags work j)
  unfolding cell_of
  choice_other q m h = sym (ap (λ b. b && agree? m (memory_in tags work j)) (ne_eqb _ _ h))

  pub other_row : (i q : ℕ) (m : Memory) → (i ≡ get_or work (j * 32 + 0) 0 → ⊥) → false ≡ eq_annotation (annotation i q m) (annotation_in tags work j)
  unfolding cell_of
  other_row i q m h =
      sym (ap (λ b. b && (eqb q (get_or work (j * 32 + 1) 0) && eq_list m (memory_in tags work j))) (ne_eqb i (get_or work (j * 32 + 0) 0) h))

  pub other_state : (i q : ℕ) (m : Memory) → (q ≡ get_or work (j * 32 + 1) 0 → ⊥) → false ≡ eq_annotation (annotation i q m) (annotation_in tags work j)
  unfolding cell_of
  other_state i q m h = go (eqb i (get_or work (j * 32 + 0) 0))
    where
      go : (b : Bool) → false ≡ (b && (eqb q (get_or work (j * 32 + 1) 0) && eq_list m (memory_in tags work j)))
      go true = sym (ap (λ b. b && eq_list m (memory_in tags work j)) (ne_eqb q (get_or work (j * 32 + 1) 0) h))
      go false = refl

pub choice_joined : (work : List ℕ) (j : ℕ) (m x : List ℕ) → JoinedIn m (part work 0 j) x → JoinedWith work j m x
choice_joined work j m x e tags few = e tags few ∙ ap (joined (memory_of tags m)) (memory_part work tags j few)

pub ruleset cells = (choice_other, choice_agrees, same_memory, other_row, other_state, rules)
