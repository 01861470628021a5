-- What the functions over the work space read: an annotation's cells, and the part of the space that holds its memory. Assumes nothing.
use mathlib.Core.Path.{◌≡◌, refl, sym, ap, ◌∙◌}
use mathlib.Core.List.{List}
use mathlib.Core.Bool.{Bool, true, false, ◌&&◌, ◌||◌}
use Prim.Native.Nat.{ℕ, zero, suc, ◌+◌, ◌*◌, ◌-◌, ◌≤◌}
use native.Mathlib.Omega.{arith}
use borrow.Author.Rules.{rules}
use borrow.Author.Tests.{eq-eqb, ne_eqb}
use lib.Dec.{eqb}
use lib.ListN.{get_or, take, drop}
use lib.Seq.{get_or-take, get_or-drop}
use Rattle.model.specs.Lists.{any, eq_list, tab, any_below}
use Rattle.model.specs.Annotation.{Memory, Annotation, annotation, agree?, joined, eq_annotation}
use Rattle.automaton.proofs.Parts.{tab_same}
use Rattle.membership.specs.Cells.{memory_of, JoinedIn, cell_of, memory_in, annotation_in, annotations_in}
use Rattle.membership.specs.Search.{choosable?, JoinedWith}

module _ (work : List ℕ) (tags j : ℕ) where
  -- the part of the space that holds the memory
  abbrev part : List ℕ
  part = take (j * 32 + 18 - (j * 32 + 2)) (drop (j * 32 + 2) work)

  module _ (few : tags ≤ 16) where
    memory_part : memory_of tags part ≡ memory_in tags work j
    unfolding memory_of memory_in cell_of
    memory_part =
        tab_same tags (λ k. get_or part k 0) (λ k. get_or work (j * 32 + (2 + k)) 0)
        (λ k h.
        let e : j * 32 + 2 + k ≡ j * 32 + (2 + k) = omega arith in
        get_or-take (j * 32 + 18 - (j * 32 + 2)) (drop (j * 32 + 2) work) k 0 (omega arith) ∙ get_or-drop (j * 32 + 2) work k 0 ∙ ap (λ i. get_or work i 0) e)

    pub choice_agrees : (q : ℕ) (m : List ℕ) (r : Bool) → get_or work (j * 32 + 1) 0 ≡ q → r ≡ agree? (memory_of tags m) (memory_of tags part) → r ≡ choosable? q (memory_of tags m) (annotation_in tags work j)
    unfolding cell_of
    choice_agrees q m r es e = e ∙ ap (agree? (memory_of tags m)) memory_part ∙ sym (ap (λ b. b && agree? (memory_of tags m) (memory_in tags work j)) (eq-eqb _ _ es))

    pub same_memory : (i q : ℕ) (m : List ℕ) (r : Bool) → i ≡ get_or work (j * 32 + 0) 0 → q ≡ get_or work (j * 32 + 1) 0 → r ≡ eq_list (memory_of tags m) (memory_of tags part) → r ≡ eq_annotation (annotation i q (memory_of tags m)) (annotation_in tags work j)
    unfolding cell_of
    same_memory i q m r er es e =
        e ∙ ap (eq_list (memory_of tags m)) memory_part
        ∙ sym (ap (λ b. b && eq_list (memory_of tags m) (memory_in tags work j)) (eq-eqb q (get_or work (j * 32 + 1) 0) es))
        ∙ sym (ap (λ b. b && (eqb q (get_or work (j * 32 + 1) 0) && eq_list (memory_of tags m) (memory_in tags work j))) (eq-eqb i (get_or work (j * 32 + 0) 0) er))

  pub choice_other : (q : ℕ) (m : Memory) → (get_or work (j * 32 + 1) 0 ≡ q → ⊥) → false ≡ choosable? q m (annotation_in tags work j)
  unfolding cell_of
  choice_other q m h = sym (ap (λ b. b && agree? m (memory_in tags work j)) (ne_eqb _ _ h))

  pub other_row : (i q : ℕ) (m : Memory) → (i ≡ get_or work (j * 32 + 0) 0 → ⊥) → false ≡ eq_annotation (annotation i q m) (annotation_in tags work j)
  unfolding cell_of
  other_row i q m h =
      sym (ap (λ b. b && (eqb q (get_or work (j * 32 + 1) 0) && eq_list m (memory_in tags work j))) (ne_eqb i (get_or work (j * 32 + 0) 0) h))

  pub other_state : (i q : ℕ) (m : Memory) → (q ≡ get_or work (j * 32 + 1) 0 → ⊥) → false ≡ eq_annotation (annotation i q m) (annotation_in tags work j)
  unfolding cell_of
  other_state i q m h = go (eqb i (get_or work (j * 32 + 0) 0))
    where
      go : (b : Bool) → false ≡ (b && (eqb q (get_or work (j * 32 + 1) 0) && eq_list m (memory_in tags work j)))
      go true = sym (ap (λ b. b && eq_list m (memory_in tags work j)) (ne_eqb q (get_or work (j * 32 + 1) 0) h))
      go false = refl

pub choice_joined : (work : List ℕ) (j : ℕ) (m x : List ℕ) → JoinedIn m (part work 0 j) x → JoinedWith work j m x
choice_joined work j m x e tags few = e tags few ∙ ap (joined (memory_of tags m)) (memory_part work tags j few)

-- a scan for some index below n that passes a test
or_assoc : (a b c : Bool) → (a || (b || c)) ≡ ((a || b) || c)
or_assoc true b c = refl
or_assoc false b c = refl

or_false : (a : Bool) → (false || a) ≡ (a || false)
or_false true = refl
or_false false = refl

any_front : (n : ℕ) (p : ℕ → Bool) → any_below (suc n) p ≡ (p 0 || any_below n (λ k. p (suc k)))
unfolding any_below
any_front zero p = or_false (p 0)
any_front (suc n) p = ap (λ b. b || p (suc n)) (any_front n p) ∙ sym (or_assoc (p 0) (any_below n (λ k. p (suc k))) (p (suc n)))

pub any_tab : {A : Type 0} (f : A → Bool) (n : ℕ) (g : ℕ → A) → any f (tab n g) ≡ any_below n (λ j. f (g j))
unfolding any_below
any_tab f zero g = refl
any_tab f (suc n) g = ap (λ b. f (g 0) || b) (any_tab f n (λ k. g (suc k))) ∙ sym (any_front n (λ j. f (g j)))

pub any_annotation : (f : Annotation → Bool) (tags : ℕ) (work : List ℕ) (n : ℕ) → any f (annotations_in tags work n) ≡ any_below n (λ j. f (annotation_in tags work j))
unfolding annotations_in
any_annotation f tags work n = any_tab f n (annotation_in tags work)

pub ruleset cells = (choice_other, choice_agrees, same_memory, other_row, other_state, rules)
