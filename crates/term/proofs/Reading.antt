-- Each way through a term's definition. Assumes nothing.
use mathlib.Core.Path.{◌≡◌, refl, sym, ap, ◌∙◌}
use mathlib.Core.Bool.{true, false}
use mathlib.Core.List.{List, []}
use Prim.Native.Nat.{ℕ, zero, suc, ◌+◌, ◌-◌}
use native.Mathlib.Omega.{arith}
use borrow.Author.Tests.{eq-eqb, ne_eqb}
use lib.Dec.{eqb}
use lib.ListN.{length}
use Rattle.model.specs.Table.{Row}
use Rattle.document.specs.Scalars.{kind_of, payload_of}
use Rattle.document.specs.declared.scalar.Scalar.{Scalar as Value}
use Rattle.names.specs.Names.{letter?}
use Rattle.term.specs.Scan.{byte_at, Got, name_at, Scalar, scalar, scalar_at}
use Rattle.term.specs.Answer.{scalar_of}
use Rattle.term.specs.Grammar.{Setting, refused, row_of, end_term, after_args, after_scalar, read_args, named, unnamed, symbol_of, read_term}
use Rattle.std.specs.Prelude.{Result, Ok, Err}
use Rattle.base.specs.declared.text.Fault.{Fault}

-- after a scalar that was read
module _ (S : Setting) (at s : ℕ) (rows : List Row) (r : Result (Value × ℕ) Fault) (g : Got Scalar) (read : scalar_of r ≡ g) where
  pub leaf_scalar : (k : Value × ℕ) → r ≡ Ok k → after_scalar S at s rows g ≡ end_term S.arity S.limit at (row_of s (scalar (kind_of k.0) (payload_of k.0)) []) k.1 rows
  leaf_scalar k q = ap (after_scalar S at s rows) (sym read ∙ ap scalar_of q)

  pub leaf_fault : (p : Fault) → r ≡ Err p → after_scalar S at s rows g ≡ refused 63 p.0
  leaf_fault p q = ap (after_scalar S at s rows) (sym read ∙ ap scalar_of q)

module _ (S : Setting) (t : List ℕ) (at : ℕ) (rows : List Row) where
  pub no_letter : (l : ℕ) → letter? (byte_at t at) ≡ false → read_term S t l at rows ≡ refused 63 at
  unfolding read_term
  no_letter zero e = rw (read_term, e)
  no_letter (suc l) e = rw (read_term, e)

  module _ (letter : letter? (byte_at t at) ≡ true) where
    pub too_deep : (l : ℕ) → l ≡ 0 → read_term S t l at rows ≡ refused 64 at
    unfolding read_term
    too_deep zero e = rw (read_term, letter)
    too_deep (suc l) e = absurd (omega arith)

    module _ (w : ℕ) (p : ℕ) where
      step_unnamed : (l : ℕ) → symbol_of S.symbol at (name_at t at) ≡ unnamed w p → read_term S t (suc l) at rows ≡ refused w p
      unfolding read_term
      step_unnamed l e = rw (read_term, letter, e)

      pub term_unnamed : (l : ℕ) → (l ≡ 0 → ⊥) → symbol_of S.symbol at (name_at t at) ≡ unnamed w p → read_term S t l at rows ≡ refused w p
      term_unnamed zero h e = absurd (h refl)
      term_unnamed (suc l) h e = step_unnamed l e

    module _ (s next : ℕ) (known : symbol_of S.symbol at (name_at t at) ≡ named s next) where
      step_leaf : (l : ℕ) → (byte_at t next ≡ 40 → ⊥) → read_term S t (suc l) at rows ≡ after_scalar S at s rows (scalar_at t next)
      unfolding read_term
      step_leaf l b = let f : eqb (byte_at t next) 40 ≡ false = ne_eqb _ _ b in rw (read_term, letter, known, f)

      pub term_leaf : (l : ℕ) → (l ≡ 0 → ⊥) → (byte_at t next ≡ 40 → ⊥) → read_term S t l at rows ≡ after_scalar S at s rows (scalar_at t next)
      term_leaf zero h b = absurd (h refl)
      term_leaf (suc l) h b = step_leaf l b

      step_args : (l : ℕ) → byte_at t next ≡ 40 → read_term S t (suc l) at rows ≡ after_args S at s (read_args (read_term S t l) t (length t - (next + 1)) (next + 1) rows)
      unfolding read_term
      step_args l b = let f : eqb (byte_at t next) 40 ≡ true = eq-eqb _ _ b in rw (read_term, letter, known, f)

      pub term_args : (l : ℕ) → (l ≡ 0 → ⊥) → byte_at t next ≡ 40 → read_term S t l at rows ≡ after_args S at s (read_args (read_term S t (l - 1)) t (length t - (next + 1)) (next + 1) rows)
      term_args zero h b = absurd (h refl)
      term_args (suc l) h b =
          let e : suc l - 1 ≡ l = omega arith in
          step_args l b ∙ ap (λ m. after_args S at s (read_args (read_term S t m) t (length t - (next + 1)) (next + 1) rows)) (sym e)
