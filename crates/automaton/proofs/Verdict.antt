-- Demands in a row, each tried in the code by a flag; what an answer with a number is, and what a caller learns of it. Assumes nothing.
use mathlib.Core.Path.{◌≡◌, refl, sym, ap, ◌∙◌}
use mathlib.Core.Bool.{Bool, true, false}
use mathlib.Core.List.{List}
use Prim.Native.Nat.{ℕ, suc, ◌≤◌, ◌<◌}
use native.Mathlib.Omega.{arith}
use lib.Dec.{leb}
use borrow.Author.Tests.{le-leb, lt-leb, not-true, not-false}
use Rattle.model.specs.Limits.{max_tags}
use Rattle.model.specs.Refusal.{demand, and_after, unless}
use Rattle.std.specs.Prelude.{Result, Ok, Err}
use Rattle.base.specs.Refusals.{number, refused_by}
use Rattle.base.specs.declared.refusal.Refusal.{Refusal}
use Rattle.base.proofs.Refusing.{some_number}
use Rattle.base.proofs.Refusing as refusing
use Rattle.automaton.specs.Stored.{tag_count}
use Rattle.automaton.specs.Check.{counts_ok}
use Rattle.automaton.specs.Answer.{check_answer}
use Rattle.automaton.proofs.Passes.{counted}

-- a flag f of the test t: the demand passes, and the rest decides; or it stops
module _ (t f : Bool) (n rest : ℕ) (e : f ≡ t) where
  pub pass : (v : ℕ) → f ≡ true → v ≡ rest → v ≡ demand t n rest
  unfolding demand
  pass v y h = rw (← e, y) h

  pub stop : f ≡ false → n ≡ demand t n rest
  unfolding demand
  stop y = rw (← e, y)

-- the same of a comparison
module _ (a b n rest : ℕ) where
  pub pass_at_least : (v : ℕ) → a ≤ b → v ≡ rest → v ≡ demand (leb a b) n rest
  unfolding demand
  pass_at_least v l h = rw (le-leb a b l) h

  pub stop_below : b < a → n ≡ demand (leb a b) n rest
  unfolding demand
  stop_below l = rw (lt-leb a b l)

pub ruleset verdicts = (pass, stop, pass_at_least, stop_below, not-true, not-false)

-- the answer with the number that the definition gives
pub answered : (r : Result (Unit {0}) Refusal) (m : ℕ) → refused_by r ≡ m → check_answer r ≡ unless m tt
answered r m e = refusing.answered (λ u. u) tt r m (λ a h. refl) e

pub refused : (w : Refusal) (n m : ℕ) → number w ≡ n → n ≡ m → check_answer (Err w) ≡ unless m tt
refused w n m e h = answered (Err w) m (e ∙ h)

pub passed : (m : ℕ) → 0 ≡ m → check_answer (Ok tt) ≡ unless m tt
passed m h = answered (Ok tt) m h

pub answer_is : (r : Result (Unit {0}) Refusal) (m : ℕ) → check_answer r ≡ unless m tt → refused_by r ≡ m
answer_is r m e = refusing.refused_is (λ u. u) tt r m e

-- a set that passed 2 has few tags
pub tags_few : (s : List ℕ) (f : Bool) → f ≡ counts_ok s → f ≡ true → tag_count s ≤ max_tags
tags_few s f e y = (counted s (sym e ∙ y)).few_tags

-- What a caller learns: of an answer that passed the number is 0, and a later place decides; of a refusal it is the refusal's own.
module _ (r : Result (Unit {0}) Refusal) (n : ℕ) (e : check_answer r ≡ unless n tt) where
  pub passed_zero : r ≡ Ok tt → n ≡ 0
  passed_zero h = sym (answer_is r n e) ∙ ap refused_by h

  pub passed_after : (rest : ℕ) → r ≡ Ok tt → rest ≡ and_after n rest
  unfolding and_after
  passed_after rest h = rw (passed_zero h)

  pub refused_after : (w : Refusal) (rest : ℕ) → r ≡ Err w → number w ≡ and_after n rest
  unfolding and_after
  refused_after w rest h =
      let s = some_number w in
      let m : n ≡ suc s.0 = sym (answer_is r n e) ∙ ap refused_by h ∙ s.1 in
      rw m s.1

  pub refused_some : (w : Refusal) → r ≡ Err w → 0 < number w
  refused_some w h = let s = some_number w in omega (arith, s.1)
