-- The check of two lists: one law for each answer, and what a caller learns of it. Assumes nothing.
use mathlib.Core.Path.{◌≡◌, refl, sym, ap, ◌∙◌}
use mathlib.Core.Bool.{Bool, true, false}
use mathlib.Core.List.{List}
use Prim.Native.Nat.{ℕ, ◌*◌, ◌≤◌, ◌<◌, min}
use native.Mathlib.Omega.{arith}
use borrow.Author.Rules.{rules}
use lib.ListN.{length}
use Rattle.model.specs.Limits.{max_symbols}
use Rattle.model.specs.Refusal.{demand, unless}
use Rattle.names.specs.Names.{shown_name}
use Rattle.names.specs.Table.{name_in, cell_bytes, table_of}
use Rattle.names.specs.Check.{list_fits?, distinct?, shown_apart?, names_check_of, names_answer}
use Rattle.std.specs.Prelude.{Result, Ok, Err}
use Rattle.base.specs.Refusals.{number, refused_by}
use Rattle.base.proofs.Refusing as refusing
use Rattle.base.proofs.Refusing.{some_number, refused_is}
use Rattle.base.specs.declared.refusal.Refusal.{Refusal}
use Rattle.names.proofs.Tests.{and_false}
use Rattle.names.proofs.Shown.{held, distinct_same}

module _ (symbols : ℕ) (site built_in : List ℕ) where
  -- the names in a table differ where those shown do
  pub table_distinct : (t t' : List ℕ) (n : ℕ) (r : Bool) → max_symbols * cell_bytes ≤ length t → t' ≡ table_of site built_in t → n ≡ min symbols max_symbols
      → r ≡ distinct? n (name_in t') → list_fits? site ≡ true → list_fits? built_in ≡ true → r ≡ shown_apart? symbols site built_in
  table_distinct t t' n r room e is h fit fit' =
      h ∙ ap (λ w. distinct? n (name_in w)) e
      ∙ distinct_same (name_in (table_of site built_in t)) (shown_name site built_in) n (λ i l. held site built_in t fit fit' room i (omega arith))
      ∙ ap (λ k. distinct? k (shown_name site built_in)) is

  pub first_bad : (a : Bool) → a ≡ list_fits? site → a ≡ false → 61 ≡ names_check_of symbols site built_in
  unfolding names_check_of demand
  first_bad a is f = rw (← is, f)

  pub second_bad : (b : Bool) → b ≡ list_fits? built_in → b ≡ false → 61 ≡ names_check_of symbols site built_in
  unfolding names_check_of demand
  second_bad b is f = rw (← is, f, and_false)

  module _ (a b d : Bool) (is : a ≡ list_fits? site) (is' : b ≡ list_fits? built_in) (fit : a ≡ true) (fit' : b ≡ true) (apart : d ≡ shown_apart? symbols site built_in) where
    pub all_well : d ≡ true → 0 ≡ names_check_of symbols site built_in
    unfolding names_check_of demand
    all_well t = rw (← is, ← is', fit, fit', ← apart, t)

    pub alike : d ≡ false → 62 ≡ names_check_of symbols site built_in
    unfolding names_check_of demand
    alike f = rw (← is, ← is', fit, fit', ← apart, f)

pub ruleset answers = (table_distinct, first_bad, second_bad, all_well, alike, rules)

-- the answer with the number that the definition gives
pub answered : (r : Result (Unit {0}) Refusal) (m : ℕ) → refused_by r ≡ m → names_answer r ≡ unless m tt
answered r m e = refusing.answered (λ u. u) tt r m (λ a h. refl) e

-- what a caller learns of an answer: lists that pass have the number 0, and a refusal has its own, which is not 0
module _ (r : Result (Unit {0}) Refusal) (n : ℕ) (e : names_answer r ≡ unless n tt) where
  number_is : refused_by r ≡ n
  number_is = refused_is (λ u. u) tt r n e

  pub distinct_zero : r ≡ Ok tt → n ≡ 0
  distinct_zero h = sym number_is ∙ ap refused_by h

  pub refused_number : (why : Refusal) → r ≡ Err why → (n ≡ number why) × (0 < number why)
  refused_number why h = let s = some_number why in (sym number_is ∙ ap refused_by h, omega (arith, s.1))
