-- What a chain over the numbers below n answers: a test of each of them. Assumes nothing.
use mathlib.Core.Path.{◌≡◌, refl, sym, ◌∙◌, ap}
use mathlib.Core.Bool.{Bool, true, false, ◌&&◌}
use mathlib.Core.List.{List}
use Prim.Native.Nat.{ℕ, zero, suc, ◌+◌}
use native.Mathlib.Omega.{arith}
use Rattle.std.specs.List.{FoldsTo, list_all, range_with_len}
use Rattle.std.specs.Iterator.{YieldsThen}
use Rattle.std.specs.Option.{MatchOption}
use Rattle.std.specs.Fn.{Called}
use Rattle.std.specs.Prelude.{Option}
use denote.Param.Members.{Mut}
use Rattle.std.proofs.iter.Yields.{nat_range_steps}
use Rattle.std.proofs.lemmas.Iterator.{YieldsList-from_range}
use Rattle.std.proofs.lemmas.Iterator.Search.{all_from_yields_List}
use Rattle.std.specs.declared.ops.Range.{Range}
use Rattle.model.specs.Lists.{all_below}

and_assoc : (a b c : Bool) → (a && (b && c)) ≡ ((a && b) && c)
and_assoc true b c = refl
and_assoc false b c = refl

and_true : (a : Bool) → (a && true) ≡ a
and_true true = refl
and_true false = refl

-- the first index apart
pub from_first : (n : ℕ) (p : ℕ → Bool) → all_below (suc n) p ≡ (p zero && all_below n (λ k. p (suc k)))
unfolding all_below
from_first zero p = sym (and_true (p zero))
from_first (suc n) p = ap (λ b. b && p (suc n)) (from_first n p) ∙ sym (and_assoc (p zero) (all_below n (λ k. p (suc k))) (p (suc n)))

same_tests : (n : ℕ) (p q : ℕ → Bool) → ((k : ℕ) → p k ≡ q k) → all_below n p ≡ all_below n q
unfolding all_below
same_tests zero p q h = refl
same_tests (suc n) p q h = ap (λ b. b && p n) (same_tests n p q h) ∙ ap (λ b. all_below n q && b) (h n)

first_place : (a : ℕ) → a ≡ a + 0
first_place a = omega arith

pub all_from : (n a : ℕ) (p : ℕ → Bool) → list_all p (range_with_len a n) ≡ all_below n (λ k. p (a + k))
unfolding all_below
all_from zero a p = refl
all_from (suc n) a p = ap (λ b. p a && b) (all_from n (a + 1) p)
    ∙ ap (λ b. p a && b) (same_tests n (λ k. p (a + 1 + k)) (λ k. p (a + suc k)) (λ k. ap p (omega arith)))
    ∙ ap (λ k. p k && all_below n (λ j. p (a + suc j))) (first_place a)
    ∙ sym (from_first n (λ k. p (a + k)))

-- What `all` answers over the numbers below n, by a closure that asks the test of each.
pub all_in_range : {F : Type 0} {g : Mut F (ℕ × Unit {0}) Bool} {end : ℕ} (test : ℕ → Bool) (n : ℕ) (u : Range ℕ) (f : F) (r : Bool)
    → end ≡ n
    → (xs : List ℕ) × (o : Option ℕ) × (j : F) × YieldsThen nat_range_steps (record { start = 0; end = end }) xs o u × FoldsTo (λ p x q. Called g p (x, tt) true q) f xs j × MatchOption o (r ≡ true) (λ x. (r ≡ false) × ((h : F) × Called g j (x, tt) false h))
    → ((x : ℕ) (b : Bool) (q : F) → Called g f (x, tt) b q → (q ≡ f) × (b ≡ test x))
    → r ≡ all_below n test
all_in_range {end} test n u f r e ran calls =
    all_from_yields_List test u f r ran (YieldsList-from_range 0 end end refl (omega arith)) calls
    ∙ all_from end 0 test
    ∙ same_tests end (λ k. test (0 + k)) test (λ k. ap test (omega arith))
    ∙ ap (λ k. all_below k test) e
