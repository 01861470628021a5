-- The check of one list, line by line: what the loop knows at its head, and what it may return. Assumes nothing.
use mathlib.Core.Path.{◌≡◌, refl, sym, ap, ◌∙◌}
use mathlib.Core.Bool.{Bool, true, false, ◌&&◌}
use mathlib.Core.List.{List}
use Prim.Native.Nat.{ℕ, ◌+◌, ◌-◌, ◌<◌, ◌≤◌}
use native.Mathlib.Numerals.{add-one}
use native.Mathlib.Omega.{arith}
use borrow.Author.Rules.{rules}
use borrow.Author.Tests.{le-leb, lt-leb, leb-true, leb-false}
use lib.Dec.{leb}
use lib.ListN.{length, take, drop}
use Rattle.model.specs.Limits.{max_symbols}
use Rattle.model.specs.Lists.{all_below}
use Rattle.model.proofs.Below.{fails}
use Rattle.names.specs.Lines.{line_at, line_count}
use Rattle.names.specs.Places.{Starts}
use Rattle.names.specs.Check.{line_fits?, list_fits?}
use Rattle.names.proofs.Tests.{and_false, shorter}
use Rattle.names.proofs.Scan.{starts_first, line_left, none_left, one_left}

-- k lines are passed, and the next one starts at a
pub record LinesPassed (s : List ℕ) (k a : ℕ) : Type 0 where
  pub few : k ≤ max_symbols
  pub starts : Starts s k a
  pub passed : all_below k (λ i. line_fits? (line_at s i)) ≡ true

module _ (s : List ℕ) where
  pub none_passed : LinesPassed s 0 0
  unfolding all_below
  none_passed = record { few = omega arith; starts = starts_first s; passed = refl }

  module _ (k a : ℕ) (v : LinesPassed s k a) where
    too_many : a < length s → k ≡ max_symbols → false ≡ list_fits? s
    unfolding list_fits?
    too_many h e = let l : max_symbols < line_count s = omega (arith, one_left s k a v.starts h) in simp (lt-leb _ _ l)

    pub bad_line : (l : List ℕ) (r : Bool) → a < length s → l ≡ line_at (take (length s - a) (drop a s)) 0 → r ≡ line_fits? l → r ≡ false → false ≡ list_fits? s
    unfolding list_fits?
    bad_line l r h here is f =
        let b : line_fits? (line_at s k) ≡ false = ap line_fits? (sym (here ∙ line_left s k a v.starts)) ∙ sym is ∙ f in
        let f' = fails (λ i. line_fits? (line_at s i)) (line_count s) k (one_left s k a v.starts h) b in
        sym (and_false (leb (line_count s) max_symbols)) ∙ ap (λ t. leb (line_count s) max_symbols && t) (sym f')

    pub line_passed : (l : List ℕ) (r : Bool) (n : ℕ) → k < max_symbols → l ≡ line_at (take (length s - a) (drop a s)) 0 → r ≡ line_fits? l → r ≡ true
        → Starts s (k + 1) n → LinesPassed s (k + 1) n
    unfolding all_below
    line_passed l r n few here is t next =
        let b : line_fits? (line_at s k) ≡ true = ap line_fits? (sym (here ∙ line_left s k a v.starts)) ∙ sym is ∙ t in
        record { few = omega (arith, v.few); starts = next; passed = rw (add-one, v.passed, b) }

    pub all_passed : length s ≤ a → true ≡ list_fits? s
    unfolding list_fits?
    all_passed h =
        let n = none_left s k a v.starts h in
        let m : line_count s ≤ max_symbols = omega (arith, v.few) in
        simp (le-leb _ _ m, shorter (λ i. line_fits? (line_at s i)) (line_count s) k n v.passed)

    -- behind 64 lines the list ends, or has too many
    pub all_or_more : k ≡ max_symbols → leb (length s) a ≡ list_fits? s
    all_or_more e = go (leb (length s) a) refl
      where
        go : (t : Bool) → leb (length s) a ≡ t → t ≡ list_fits? s
        go true q = all_passed (leb-true _ _ q)
        go false q = too_many (leb-false _ _ q) e

pub ruleset listing = (none_passed, bad_line, line_passed, all_passed, rules)
