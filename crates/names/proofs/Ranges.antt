-- What a chain over the items of a slice answers: a test of each of them. Assumes nothing.
use mathlib.Core.Path.{◌≡◌, refl, sym, ◌∙◌, ap}
use mathlib.Core.Bool.{Bool, true, false, ◌&&◌}
use mathlib.Core.List.{List, [], ◌∷◌}
use Prim.Native.Nat.{ℕ}
use lib.ListN.{length, get_or}
use denote.Param.Members.{Mut}
use denote.Ref.{Bor}
use Rattle.std.specs.List.{FoldsTo, list_all}
use Rattle.std.specs.Iterator.{YieldsThen}
use Rattle.std.specs.Option.{MatchOption}
use Rattle.std.specs.Fn.{Called}
use Rattle.std.specs.Prelude.{Option}
use Rattle.std.proofs.iter.Yields.{fronts}
use Rattle.std.specs.Slice.Iter.{iter_rest}
use Rattle.std.specs.declared.slice.Iter.{Iter}
use Rattle.std.proofs.lemmas.Iterator.{YieldsList-from_slice}
use Rattle.std.proofs.lemmas.Iterator.Search.{all_from_yields_List}
use Rattle.model.specs.Lists.{all_below}
use Rattle.model.proofs.Ranges.{from_first}

each_below : (p : ℕ → Bool) (xs : List ℕ) → list_all p xs ≡ all_below (length xs) (λ k. p (get_or xs k 0))
unfolding all_below
each_below p [] = refl
each_below p (x ∷ xs) = ap (λ b. p x && b) (each_below p xs) ∙ sym (from_first (length xs) (λ k. p (get_or (x ∷ xs) k 0)))

-- What `all` answers over a slice of numbers, by a closure that asks the test of each.
pub all_in_slice : {F : Type 0} {g : Mut F (Bor ℕ × Unit {0}) Bool} {s : Iter ℕ} {xs : List ℕ} (test : ℕ → Bool) (u : Iter ℕ) (f : F) (r : Bool) → iter_rest s ≡ xs
    → (ys : List (Bor ℕ)) × (o : Option (Bor ℕ)) × (j : F) × YieldsThen fronts s ys o u × FoldsTo (λ p x q. Called g p (x, tt) true q) f ys j × MatchOption o (r ≡ true) (λ x. (r ≡ false) × ((h : F) × Called g j (x, tt) false h))
    → ((x : Bor ℕ) (b : Bool) (q : F) → Called g f (x, tt) b q → (q ≡ f) × (b ≡ test x.now))
    → r ≡ all_below (length xs) (λ k. test (get_or xs k 0))
all_in_slice {xs} test u f r e ran calls = all_from_yields_List test u f r ran (YieldsList-from_slice xs e) calls ∙ each_below test xs
