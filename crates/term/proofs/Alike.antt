-- Two texts with the same names, scalars and marks at each place spell the same trees, and are read the same. Assumes nothing.
use mathlib.Core.Path.{◌≡◌, refl, sym, ap, ◌∙◌}
use mathlib.Core.Bool.{Bool, true, false, cond}
use mathlib.Core.List.{List, [], ◌∷◌}
use mathlib.Core.Option.{Option}
use Prim.Native.Nat.{ℕ, zero, suc, ◌+◌, ◌-◌, ◌<◌}
use native.Mathlib.Omega.{arith}
use borrow.Author.Tests.{eq-eqb, eqb-true}
use lib.Dec.{eqb}
use lib.ListN.{length}
use Rattle.model.specs.Tree.{Tree, Forest}
use Rattle.model.specs.Table.{Row}
use Rattle.model.specs.Limits.{max_levels}
use Rattle.names.specs.Names.{letter?}
use Rattle.term.specs.Scan.{byte_at, Got, name_at, Scalar, scalar_at}
use Rattle.term.specs.Grammar.{Setting, Outcome, good, refused, after_args, after_scalar, with_first, read_args, Named, named, unnamed, symbol_of, read_term}
use Rattle.term.specs.Read.{whole_text, read_text}
use Rattle.term.specs.Spelling.{NameAt, TermAt, leaf, branch, ArgsAt, last, more}

-- the same length, letters, names and scalars, and the same marks: bytes below the digits, as brackets and the comma are
pub record AlikeTexts (t t' : List ℕ) : Type 0 where
  pub size : length t ≡ length t'
  pub letters : (i : ℕ) → letter? (byte_at t i) ≡ letter? (byte_at t' i)
  pub marks : (c : ℕ) → c < 48 → (i : ℕ) → eqb (byte_at t i) c ≡ eqb (byte_at t' i) c
  pub names : (i : ℕ) → letter? (byte_at t i) ≡ true → name_at t i ≡ name_at t' i
  pub scalars : (i : ℕ) → scalar_at t i ≡ scalar_at t' i

pub alike_sym : (t t' : List ℕ) → AlikeTexts t t' → AlikeTexts t' t
alike_sym t t' a =
    record {
      size = sym a.size;
      letters = λ i. sym (a.letters i);
      marks = λ c s i. sym (a.marks c s i);
      names = λ i l. sym (a.names i (a.letters i ∙ l));
      scalars = λ i. sym (a.scalars i);
    }

module _ (t t' : List ℕ) (a : AlikeTexts t t') where
  -- a mark at a place of one stands there in the other
  mark_there : (c : ℕ) → c < 48 → (i : ℕ) → byte_at t i ≡ c → byte_at t' i ≡ c
  mark_there c s i e = eqb-true (byte_at t' i) c (sym (a.marks c s i) ∙ eq-eqb (byte_at t i) c e)

  mark_back : (c : ℕ) → c < 48 → (i : ℕ) → byte_at t' i ≡ c → byte_at t i ≡ c
  mark_back c s i e = eqb-true (byte_at t i) c (a.marks c s i ∙ eq-eqb (byte_at t' i) c e)

  module _ (symbol : List ℕ → Option ℕ) where
    name_there : {i s n : ℕ} → NameAt symbol t i s n → NameAt symbol t' i s n
    name_there {i} h = record { letter = sym (a.letters i) ∙ h.letter; known = ap (symbol_of symbol i) (sym (a.names i h.letter)) ∙ h.known }

    mutual
      -- THE SAME TREES
      pub term_there : {i n : ℕ} {u : Tree} → TermAt symbol t i u n → TermAt symbol t' i u n
      term_there (leaf {next = next} name b q) = leaf (name_there name) (λ e. b (mark_back 40 (omega arith) next e)) (sym (a.scalars next) ∙ q)
      term_there (branch {next = next} name b args) = branch (name_there name) (mark_there 40 (omega arith) next b) (args_there args)

      args_there : {i n : ℕ} {f : Forest} → ArgsAt symbol t i f n → ArgsAt symbol t' i f n
      args_there (last {next = next} h b m) = last (term_there h) (mark_there 41 (omega arith) next b) m
      args_there (more {next = next} h b args) = more (term_there h) (mark_there 44 (omega arith) next b) (args_there args)

  -- argument lists, by readers of terms that do the same
  module _ (term term' : ℕ → List Row → Outcome ℕ) (same : (at : ℕ) (rows : List Row) → term at rows ≡ term' at rows) where
    args_same : (n at : ℕ) (rows : List Row) → read_args term t n at rows ≡ read_args term' t' n at rows
    unfolding read_args
    args_same zero at rows = refl
    args_same (suc n) at rows = rw (read_args, same at rows) (go (term' at rows) (λ next j rs. ap (with_first j) (args_same n (next + 1) rs)))
      where
        turn : (s : List ℕ) (rest : ℕ → List Row → Outcome (List ℕ)) → Outcome ℕ → Outcome (List ℕ)
        turn s rest o =
            elim o [
              | refused w p ↦ refused w p
              | good j next rs ↦ elim (eqb (byte_at s next) 44) [
                | true ↦ with_first j (rest (next + 1) rs)
                | false ↦ cond (eqb (byte_at s next) 41) (good (j ∷ []) (next + 1) rs) (refused 63 next)
              ]
            ]

        go : (o : Outcome ℕ) → ((next j : ℕ) (rs : List Row) → with_first j (read_args term t n (next + 1) rs) ≡ with_first j (read_args term' t' n (next + 1) rs)) → turn t (read_args term t n) o ≡ turn t' (read_args term' t' n) o
        go (refused w p) f = refl
        go (good j next rs) f = (λ i. by (a.marks 44 (omega arith) next i) (a.marks 41 (omega arith) next i) (with_first j (read_args term t n (next + 1) rs))) ∙ pick (eqb (byte_at t' next) 44)
          where
            by : Bool → Bool → Outcome (List ℕ) → Outcome (List ℕ)
            by comma close x = elim comma [ true ↦ x | false ↦ cond close (good (j ∷ []) (next + 1) rs) (refused 63 next) ]

            pick : (b : Bool) → by b (eqb (byte_at t' next) 41) (with_first j (read_args term t n (next + 1) rs)) ≡ by b (eqb (byte_at t' next) 41) (with_first j (read_args term' t' n (next + 1) rs))
            pick true = f next j rs
            pick false = refl

  module _ (S : Setting) where
    -- terms
    pub term_same : (l at : ℕ) (rows : List Row) → read_term S t l at rows ≡ read_term S t' l at rows
    unfolding read_term
    term_same zero at rows = rw (a.letters at)
    term_same (suc l) at rows = by_letter (letter? (byte_at t at)) refl (λ s next. ap (after_args S at s) (args_same (read_term S t l) (read_term S t' l) (term_same l) (length t - (next + 1)) (next + 1) rows ∙ ap (λ m. read_args (read_term S t' l) t' (m - (next + 1)) (next + 1) rows) a.size))
      where
        after : (s : List ℕ) → (ℕ → ℕ → Outcome ℕ) → Named → Outcome ℕ
        after s args n =
            elim n [
              | unnamed w p ↦ refused w p
              | named x next ↦ elim (eqb (byte_at s next) 40) [ true ↦ args x next | false ↦ after_scalar S at x rows (scalar_at s next) ]
            ]

        args : (s : List ℕ) → (ℕ → ℕ → Outcome ℕ)
        args s x next = after_args S at x (read_args (read_term S s l) s (length s - (next + 1)) (next + 1) rows)

        by_name : (n : Named) → ((x next : ℕ) → args t x next ≡ args t' x next) → after t (args t) n ≡ after t' (args t') n
        by_name (unnamed w p) f = refl
        by_name (named x next) f = (λ i. by (a.marks 40 (omega arith) next i) (args t x next) (a.scalars next i)) ∙ pick (eqb (byte_at t' next) 40)
          where
            by : Bool → Outcome ℕ → Got Scalar → Outcome ℕ
            by b o k = elim b [ true ↦ o | false ↦ after_scalar S at x rows k ]

            pick : (b : Bool) → by b (args t x next) (scalar_at t' next) ≡ by b (args t' x next) (scalar_at t' next)
            pick true = f x next
            pick false = refl

        by_letter : (b : Bool) → letter? (byte_at t at) ≡ b → ((x next : ℕ) → args t x next ≡ args t' x next) → read_term S t (suc l) at rows ≡ read_term S t' (suc l) at rows
        by_letter true e f = rw (read_term, sym (a.letters at) ∙ e, e, a.names at e) (by_name (symbol_of S.symbol at (name_at t' at)) f)
        by_letter false e f = rw (read_term, sym (a.letters at) ∙ e, e)

    -- THE SAME READING, refusals and their places included
    pub text_same : read_text S t ≡ read_text S t'
    unfolding read_text
    text_same = ap (λ n. whole_text n (read_term S t max_levels 0 [])) a.size ∙ ap (whole_text (length t')) (term_same max_levels 0 [])
