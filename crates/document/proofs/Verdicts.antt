-- Tests one after the other: what the code's numbers make of the definition's, and what a passed test tells the next. Assumes nothing.
use mathlib.Core.Path.{◌≡◌, sym, ◌∙◌}
use mathlib.Core.List.{List}
use Prim.Native.Nat.{ℕ, suc, ◌≤◌}
use borrow.Author.Rules.{rules}
use Rattle.model.specs.Limits.{max_rows}
use Rattle.model.specs.Refusal.{and_after, unless}
use Rattle.model.specs.Automaton.{Automaton}
use Rattle.model.specs.Table.{Lower}
use Rattle.std.specs.Prelude.{Result, Ok, Err}
use Rattle.base.specs.declared.refusal.Refusal.{Refusal}
use Rattle.base.specs.Refusals.{number, refused_by}
use Rattle.base.proofs.Refusing.{some_number}
use Rattle.automaton.specs.Stored.{decode}
use Rattle.automaton.specs.Check.{check_of}
use Rattle.automaton.specs.Answer.{check_answer}
use Rattle.automaton.proofs.Sound.{sound_decode}
use Rattle.automaton.proofs.Verdict.{answered, passed_zero, passed_after, refused_after}
use Rattle.document.specs.Rows.{row_in, decode_rows}
use Rattle.document.specs.Check.{row_count, arity_in, form_check_of}
use Rattle.document.specs.Marks.{Counted, AllScalars}
use Rattle.document.proofs.Form.{formed, fits_scalar, rows_lower}

-- a refusal by the test a stops; where it passed, the rest decides
module _ (a rest : ℕ) where
  pub after_refused : (w : Refusal) → number w ≡ a → number w ≡ and_after a rest
  unfolding and_after
  after_refused w e = let s = some_number w in let m : a ≡ suc s.0 = sym e ∙ s.1 in rw m s.1

  pub after_passed : (v : ℕ) → 0 ≡ a → v ≡ rest → v ≡ and_after a rest
  unfolding and_after
  after_passed v e h = rw (← e) h

-- what 11 to 14 tell the later tests
module _ (A : Automaton) (cells : List ℕ) (e : 0 ≡ form_check_of A cells) where
  pub form_few : row_count cells ≤ max_rows
  form_few = (formed A cells (sym e)).counted.few

  pub form_counted : (n : ℕ) → n ≡ row_count cells → Counted cells n
  form_counted n q = let c = (formed A cells (sym e)).counted in record { rows = q; some = rw q c.some; few = rw q c.few }

  pub form_scalars : (n : ℕ) → n ≡ row_count cells → AllScalars cells n
  form_scalars n q i l =
      fits_scalar (arity_in A cells i) (row_in cells i).kind (row_in cells i).payload ((formed A cells (sym e)).scalars i (rw (← q) l))

pub form_lower : (set cells : List ℕ) → check_of set ≡ 0 → 0 ≡ form_check_of (decode set) cells → Lower (decode_rows cells)
form_lower set cells s e = rows_lower (decode set) cells (sound_decode set s).few_children (formed (decode set) cells (sym e))

pub ruleset tables = (after_refused, after_passed, form_few, form_counted, form_scalars, form_lower, rules)

-- a set that is refused, and one that passed, where the table decides
module _ (r : Result (Unit {0}) Refusal) (n rest : ℕ) (e : check_answer r ≡ unless n tt) where
  pub later_answers : (t : Result (Unit {0}) Refusal) → r ≡ Ok tt → refused_by t ≡ rest → check_answer t ≡ unless (and_after n rest) tt
  later_answers t s h = answered t (and_after n rest) (h ∙ passed_after r n e rest s)

  pub earlier_answers : (w : Refusal) → r ≡ Err w → check_answer (Err w) ≡ unless (and_after n rest) tt
  earlier_answers w s = answered (Err w) (and_after n rest) (refused_after r n e w rest s)

pub ruleset answers = (passed_zero, later_answers, earlier_answers, rules)
