-- The entry point's answers: the set is tried first, then the space and the tags, then what was found stands. Assumes nothing.
use mathlib.Core.Path.{◌≡◌, sym, ap, ◌∙◌}
use mathlib.Core.List.{List}
use mathlib.Core.Option.{Option}
use Prim.Native.Nat.{ℕ, ◌*◌, ◌/◌, ◌≤◌}
use native.Mathlib.Omega.{arith}
use borrow.Author.Tests.{leb-true}
use lib.Dec.{leb}
use lib.ListN.{length}
use Rattle.model.specs.Refusal.{demand, gives, refuses, unless}
use Rattle.model.specs.Tree.{Tree}
use Rattle.model.specs.Witness.{witness, apart?}
use Rattle.automaton.specs.Stored.{decode}
use Rattle.automaton.specs.Check.{check_of}
use Rattle.automaton.specs.Answer.{check_answer}
use Rattle.std.specs.Prelude.{Result, Ok, Err}
use Rattle.std.specs.Prelude.{Option as Perhaps}
use Rattle.base.specs.Refusals.{number, refused_by}
use Rattle.base.specs.declared.refusal.Refusal.{Refusal}
use Rattle.base.proofs.Refusing.{some_number, answered}
use Rattle.automaton.proofs.Verdict.{refused_after, passed_after}
use Rattle.document.specs.Rows.{row_cells}
use Rattle.document.proofs.Refusals.{passed as met}
use Rattle.emptiness.specs.declared.Sample.{Sample}
use Rattle.emptiness.specs.Answer.{sample_check_of, witness_check_of, sampled, shape_of, space_of, emptiness_of, space_after}

given_answer : (k : ℕ) (o : Option (ℕ × ℕ)) → k ≡ 0 → gives o ≡ unless k o
unfolding unless
given_answer k o e = rw e

module _ (k : ℕ) (w : Refusal) (e : number w ≡ k) where
  refused_answer : (o : Option (ℕ × ℕ)) → refuses (number w) ≡ unless k o
  refused_answer o = answered sampled o (Err w) k (λ a h. cc) e

  refused_cells : (o : Option Tree) (cells : List ℕ) → cells ≡ space_of k o cells
  refused_cells o cells = let s = some_number w in rw (sym e ∙ s.1)

module _ (s cells : List ℕ) (r : Result (Unit {0}) Refusal) (er : check_answer r ≡ unless (check_of s) tt) where
  set_number : (w : Refusal) → r ≡ Err w → number w ≡ witness_check_of s (length cells)
  unfolding witness_check_of
  set_number w e = refused_after r (check_of s) er w (sample_check_of (decode s) (length cells)) e

  pub set_answer : (w : Refusal) → r ≡ Err w → refuses (number w) ≡ emptiness_of s (length cells)
  set_answer w e = refused_answer (witness_check_of s (length cells)) w (set_number w e) (shape_of (witness (decode s)))

  pub set_space : (w : Refusal) → r ≡ Err w → cells ≡ space_after s cells
  set_space w e = refused_cells (witness_check_of s (length cells)) w (set_number w e) (witness (decode s)) cells

  module _ (eS : r ≡ Ok tt) (x : Result (Unit {0}) Refusal) (ex : refused_by x ≡ sample_check_of (decode s) (length cells)) where
    sample_number : refused_by x ≡ witness_check_of s (length cells)
    unfolding witness_check_of
    sample_number = ex ∙ passed_after r (check_of s) er (sample_check_of (decode s) (length cells)) eS

    pub sample_answer : (w : Refusal) → x ≡ Err w → refuses (number w) ≡ emptiness_of s (length cells)
    sample_answer w h = refused_answer (witness_check_of s (length cells)) w (ap refused_by (sym h) ∙ sample_number) (shape_of (witness (decode s)))

    pub sample_space : (w : Refusal) → x ≡ Err w → cells ≡ space_after s cells
    sample_space w h = refused_cells (witness_check_of s (length cells)) w (ap refused_by (sym h) ∙ sample_number) (witness (decode s)) cells

    module _ (h : x ≡ Ok tt) where
      no_number : witness_check_of s (length cells) ≡ 0
      no_number = sym sample_number ∙ ap refused_by h

      pub found_answer : (o : Perhaps Sample) → sampled o ≡ shape_of (witness (decode s)) → gives (sampled o) ≡ emptiness_of s (length cells)
      found_answer o e = ap gives e ∙ given_answer (witness_check_of s (length cells)) (shape_of (witness (decode s))) no_number

      pub found_space : (cells' : List ℕ) → cells' ≡ space_of 0 (witness (decode s)) cells → cells' ≡ space_after s cells
      found_space cells' ec = ec ∙ ap (λ k. space_of k (witness (decode s)) cells) (sym no_number)

      -- space for as many rows as states
      pub roomy : (q : ℕ) → q ≡ length (decode s).states → q * row_cells ≤ length cells
      unfolding sample_check_of
      roomy q eq =
          let l = leb-true (length (decode s).states) (length cells / row_cells) (met (leb (length (decode s).states) (length cells / row_cells)) 42 (demand (apart? (decode s)) 41 0) (omega arith) (sym ex ∙ ap refused_by h)).0 in
          omega arith
