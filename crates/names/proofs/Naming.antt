-- Tests of a name, one law for each way out of the code. Assumes nothing.
use mathlib.Core.Path.{◌≡◌, sym, ◌∙◌}
use mathlib.Core.Bool.{Bool, true, false}
use mathlib.Core.List.{List}
use Prim.Native.Nat.{ℕ, ◌<◌, ◌≤◌}
use native.Mathlib.Omega.{arith}
use borrow.Author.Rules.{rules}
use borrow.Author.Tests.{lt-ltb, le-ltb, le-leb, lt-leb, eq-eqb, ne_eqb}
use lib.ListN.{length, get_or}
use Rattle.model.specs.Lists.{all_below}
use Rattle.names.specs.Names.{letter?, name_byte?, max_name, name?}
use Rattle.names.specs.Check.{line_fits?}

module _ (s : List ℕ) where
  pub empty_no_name : length s ≡ 0 → false ≡ name? s
  unfolding name?
  empty_no_name e = let h : length s ≤ 0 = omega arith in simp (le-ltb _ _ h)

  pub long_no_name : max_name < length s → false ≡ name? s
  unfolding name?
  long_no_name h = let p : 0 < length s = omega arith in simp (lt-ltb _ _ p, lt-leb _ _ h)

  module _ (some : (length s ≡ 0) → ⊥) (few : length s ≤ max_name) (r : Bool) (is : r ≡ letter? (get_or s 0 0)) where
    pub no_name_first : r ≡ false → false ≡ name? s
    unfolding name?
    no_name_first e = let p : 0 < length s = omega arith in simp (lt-ltb _ _ p, le-leb _ _ few, sym is, e)

    pub name_by : (b : Bool) → r ≡ true → b ≡ all_below (length s) (λ k. name_byte? (get_or s k 0)) → b ≡ name? s
    unfolding name?
    name_by b e is_all = let p : 0 < length s = omega arith in is_all ∙ simp (lt-ltb _ _ p, le-leb _ _ few, sym is, e)

  pub empty_line : length s ≡ 0 → true ≡ line_fits? s
  unfolding line_fits?
  empty_line e = simp (eq-eqb _ _ e)

  pub line_by : (b : Bool) → (length s ≡ 0 → ⊥) → b ≡ name? s → b ≡ line_fits? s
  unfolding line_fits?
  line_by b n e = e ∙ simp (ne_eqb _ _ n)

pub ruleset naming = (empty_no_name, long_no_name, no_name_first, name_by, empty_line, line_by, rules)
