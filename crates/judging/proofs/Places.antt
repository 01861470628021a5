-- Memories place by place: what two lists made of functions of the index have in common, as one test over the index. Assumes nothing.
use mathlib.Core.Path.{◌≡◌, refl, sym, ap, ◌∙◌}
use mathlib.Core.List.{List}
use mathlib.Core.Bool.{Bool, true, false, ◌&&◌, ◌||◌}
use Prim.Native.Nat.{ℕ, zero, suc, ◌+◌, ◌<◌, ◌≤◌}
use native.Mathlib.Omega.{arith}
use native.Mathlib.Decide.{ℕ_discrete}
use native.Mathlib.Numerals.{add-one}
use borrow.Author.Rules.{rules}
use borrow.Author.Tests.{eq-eqb, ne_eqb}
use lib.Dec.{eqb, eqb-suc-suc}
use lib.ListN.{get_or}
use Rattle.model.specs.Lists.{eq_list, tab, all_below}
use Rattle.model.specs.Annotation.{places_agree, joined_place, joined}
use Rattle.model.proofs.Members.{T_true, eq_list→eq}
use Rattle.model.proofs.Tab.{tab_at}
use Rattle.automaton.proofs.Parts.{tab_same}
use Rattle.membership.specs.Cells.{memory_of}
use Rattle.judging.specs.Cells.{Short, AgreeIn, SameIn}
use Rattle.membership.proofs.Places.{joined_tab, agree_at, same_at, agree_places, same_places, join_some}

-- tests that pass past the tags do not count
all_short : (p : ℕ → Bool) (tags n : ℕ) → tags ≤ n → ((k : ℕ) → tags ≤ k → k < n → p k ≡ true) → all_below n p ≡ all_below tags p
unfolding all_below
all_short p tags zero l h = let e : 0 ≡ tags = omega arith in ap (λ k. all_below k p) e
all_short p tags (suc n) l h = go (ℕ_discrete tags (suc n)) (λ m. all_short p tags n m (λ k a b. h k a (omega arith)))
  where
    and_all : (b c : Bool) → c ≡ true → (b && c) ≡ b
    and_all true c e = e
    and_all false c e = refl

    go : Dec (tags ≡ suc n) → (tags ≤ n → all_below n p ≡ all_below tags p) → all_below (suc n) p ≡ all_below tags p
    go (yes e) rest = ap (λ k. all_below k p) (sym e)
    go (no e) rest = and_all (all_below n p) (p n) (h n (omega (arith, e)) (omega arith)) ∙ rest (omega (arith, e))

-- a loop that tests all 16 places without a branch: what it knows at its head
pub record Testing (p : ℕ → Bool) (all : Bool) (k : ℕ) : Type 0 where
  pub inside : k ≤ 16
  pub tested : all ≡ all_below k p

module _ (p : ℕ → Bool) where
  pub testing_none : Testing p true 0
  unfolding all_below
  testing_none = record { inside = omega arith; tested = refl }

  pub testing_more : (all r : Bool) (k : ℕ) → Testing p all k → k < 16 → r ≡ p k → Testing p (all && r) (k + 1)
  unfolding all_below
  testing_more all r k h l e = record { inside = omega arith; tested = rw (add-one k) (ap (λ b. b && r) h.tested ∙ ap (λ b. all_below k p && b) e) }

  testing_all : (all : Bool) (k tags : ℕ) → Testing p all k → 16 ≤ k → tags ≤ 16 → ((j : ℕ) → tags ≤ j → j < 16 → p j ≡ true) → all ≡ all_below tags p
  testing_all all k tags h l few pass =
      let e : k ≡ 16 = let i = h.inside in omega arith in
      h.tested ∙ ap (λ z. all_below z p) e ∙ all_short p tags 16 few pass

module _ (a b : List ℕ) (all : Bool) (k : ℕ) where
  pub agree_all : Testing (agree_at a b) all k → 16 ≤ k → AgreeIn a b all
  agree_all h l tags few x y = testing_all (agree_at a b) all k tags h l few (λ j m n. ap (λ z. places_agree z (get_or b j 0)) (x j m n)) ∙ sym (agree_places tags a b)

  pub same_all : Testing (same_at a b) all k → 16 ≤ k → SameIn a b all
  same_all h l tags few x y = testing_all (same_at a b) all k tags h l few (λ j m n. eq-eqb (get_or a j 0) (get_or b j 0) (x j m n ∙ sym (y j m n))) ∙ sym (same_places tags a b)

-- what is the same at all places is the same memory, whatever stands past the tags
pub same_memories : (a b : List ℕ) (r : Bool) → SameIn a b r → r ≡ true → (tags : ℕ) → tags ≤ 16 → memory_of tags a ≡ memory_of tags b
unfolding memory_of
same_memories a b r s t tags few =
    tab_same tags (λ k. get_or a k 0) (λ k. get_or b k 0)
    (λ k l. sym (tab_at 0 16 (λ j. get_or a j 0) k (omega arith)) ∙ ap (λ (z : List ℕ). get_or z k 0) all ∙ tab_at 0 16 (λ j. get_or b j 0) k (omega arith))
  where
    none : (l : List ℕ) → Short 16 l
    none l k h m = let z : ⊥ = omega arith in absurd z

    all : memory_of 16 a ≡ memory_of 16 b
    all = eq_list→eq (memory_of 16 a) (memory_of 16 b) ((T_true (eq_list (memory_of 16 a) (memory_of 16 b))).1 (sym (s 16 (omega arith) (none a) (none b)) ∙ t))

pub ruleset tests = (testing_none, testing_more, agree_all, same_all, rules)

-- of two memories joined nothing stands where nothing stands in either
pub join_short : (tags : ℕ) (out : List ℕ) (f g : ℕ → ℕ) → memory_of 16 out ≡ joined (tab 16 f) (tab 16 g) → ((k : ℕ) → tags ≤ k → k < 16 → f k ≡ 0) → ((k : ℕ) → tags ≤ k → k < 16 → g k ≡ 0) → Short tags out
unfolding memory_of
join_short tags out f g e hf hg k l m =
    sym (tab_at 0 16 (λ j. get_or out j 0) k m)
    ∙ ap (λ (z : List ℕ). get_or z k 0) (e ∙ joined_tab 16 f g)
    ∙ tab_at 0 16 (λ j. joined_place (f j) (g j)) k m
    ∙ ap (λ x. joined_place x (g k)) (hf k l m)
    ∙ hg k l m

-- places by their tests
pub agree_tests : (x y : ℕ) → ((eqb x 0 || eqb y 0) || eqb x y) ≡ places_agree x y
agree_tests zero y = refl
agree_tests (suc x) zero = rw (ne_eqb (suc x) 0 (λ e. omega arith)) refl
agree_tests (suc x) (suc y) = rw (ne_eqb (suc x) 0 (λ e. omega arith), ne_eqb (suc y) 0 (λ e. omega arith)) (eqb-suc-suc x y)

pub ruleset places = (agree_tests, join_some, rules)
