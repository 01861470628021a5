-- The text of a tree spells the tree. Assumes nothing.
use mathlib.Core.Path.{◌≡◌, refl, sym, ap, subst, ◌∙◌}
use mathlib.Core.Bool.{false}
use mathlib.Core.List.{List, ◌∷◌, ◌++◌, append_assoc}
use mathlib.Core.Option.{Option, some}
use Prim.Native.Nat.{ℕ, ◌+◌, ◌<◌}
use native.Mathlib.Omega.{arith}
use borrow.Author.Tests.{eqb-false}
use lib.Dec.{T}
use lib.ListN.{length, get_or, length-append}
use Rattle.model.specs.Tree.{Tree, Forest, node, fnil, fcons, trees}
use Rattle.model.specs.Automaton.{Automaton}
use Rattle.model.specs.Fit.{Fit, FitTree, FitForest}
use Rattle.names.specs.Names.{letter?, digit?, name_byte?, name?}
use Rattle.term.specs.Scan.{got, scalar}
use Rattle.term.specs.Spelling.{NameAt, TermAt, leaf, branch, ArgsAt, last, more}
use Rattle.spelling.specs.Text.{scalar_text, term_text, rest_text}
use Rattle.spelling.proofs.Standing.{Stands, head_of, behind, next, stands_as, name_letter, name_known}
use Rattle.spelling.proofs.Rereading.{Closes, scalar_opens, scalar_read}

-- bytes that close a term
comma : Closes 44
unfolding name_byte? letter? digit?
comma = record { no_name = refl; no_digit = refl; no_bracket = refl; no_sign = (refl, refl, refl) }

bracket : Closes 41
unfolding name_byte? letter? digit?
bracket = record { no_name = refl; no_digit = refl; no_bracket = refl; no_sign = (refl, refl, refl) }

pub nothing : Closes 0
unfolding name_byte? letter? digit?
nothing = record { no_name = refl; no_digit = refl; no_bracket = refl; no_sign = (refl, refl, refl) }

opening : name_byte? 40 ≡ false
unfolding name_byte? letter? digit?
opening = refl

rest_closes : (name : ℕ → List ℕ) (f : Forest) (l : List ℕ) → Closes (get_or (rest_text name f ++ l) 0 0)
unfolding rest_text
rest_closes name fnil l = bracket
rest_closes name (fcons u f) l = comma

-- the automaton A has the symbols, shown by their names
module _ (A : Automaton) (symbol : List ℕ → Option ℕ) (name : ℕ → List ℕ) (names : (s : ℕ) → s < length A.arities → T (name? (name s))) (found : (s : ℕ) → s < length A.arities → symbol (name s) ≡ some s) (t : List ℕ) where
  name_spelled : (s : ℕ) → s < length A.arities → (i : ℕ) (rest : List ℕ) → Stands t i (name s ++ rest) → name_byte? (get_or rest 0 0) ≡ false → NameAt symbol t i s (i + length (name s))
  name_spelled s l i rest h ends =
      record {
        letter = name_letter t i (name s) rest (names s l) h ends;
        known = name_known t i (name s) rest (names s l) h ends symbol s (found s l);
      }

  abbrev TermSpelled : Tree → Type 0
  TermSpelled u = (i : ℕ) (rest : List ℕ) → Stands t i (term_text name u ++ rest) → Closes (get_or rest 0 0) → TermAt symbol t i u (i + length (term_text name u))

  -- what follows a child
  abbrev RestSpelled : Forest → Type 0
  RestSpelled f = (start i : ℕ) (u : Tree) (rest : List ℕ) → TermAt symbol t start u i → Stands t i (rest_text name f ++ rest) → ArgsAt symbol t start (fcons u f) (i + length (rest_text name f))

  last_step : RestSpelled fnil
  unfolding rest_text
  last_step start i u rest child h = last child (head_of t i (41 ∷ rest) h) refl

  leaf_step : (s k p : ℕ) → Fit A s k p 0 → TermSpelled (node s k p fnil)
  unfolding term_text
  leaf_step s k p fit i rest h close =
      let st : Stands t i (name s ++ (scalar_text k p ++ rest)) = stands_as t i _ _ (append_assoc (name s) (scalar_text k p) rest) h in
      let o = scalar_opens t rest close k p fit.scalar in
      let at-scalar = behind t i (name s) (scalar_text k p ++ rest) st in
      let b = head_of t (i + length (name s)) (scalar_text k p ++ rest) at-scalar in
      let y = length-append (name s) (scalar_text k p) in
      let z : i + length (name s) + length (scalar_text k p) ≡ i + length (name s ++ scalar_text k p) = omega arith in
      leaf (name_spelled s fit.known i (scalar_text k p ++ rest) st o.no_name) (λ q. eqb-false _ _ o.no_bracket (sym b ∙ q))
      (scalar_read t rest close k p fit.scalar (i + length (name s)) at-scalar ∙ ap (got (scalar k p)) z)

  module _ (u : Tree) (f : Forest) (first : TermSpelled u) (others : RestSpelled f) where
    abbrev inner : List ℕ
    inner = term_text name u ++ rest_text name f

    -- a child and what follows it, behind the byte at i
    list_spelled : (b i : ℕ) (rest : List ℕ) → Stands t i (b ∷ inner ++ rest) → ArgsAt symbol t (i + 1) (fcons u f) (i + length (b ∷ inner))
    list_spelled b i rest h =
        let st : Stands t (i + 1) (term_text name u ++ (rest_text name f ++ rest)) = stands_as t (i + 1) _ _ (append_assoc (term_text name u) (rest_text name f) rest) (next t i b (inner ++ rest) h) in
        let y = length-append (term_text name u) (rest_text name f) in
        let z : i + 1 + length (term_text name u) + length (rest_text name f) ≡ i + length (b ∷ inner) = omega arith in
        subst (ArgsAt symbol t (i + 1) (fcons u f)) z
        (others (i + 1) (i + 1 + length (term_text name u)) u rest (first (i + 1) (rest_text name f ++ rest) st (rest_closes name f rest)) (behind t (i + 1) (term_text name u) (rest_text name f ++ rest) st))

    more_step : RestSpelled (fcons u f)
    unfolding rest_text
    more_step start i v rest child h = more child (head_of t i (44 ∷ inner ++ rest) h) (list_spelled 44 i rest h)

    branch_step : (s k p : ℕ) → Fit A s k p (length (trees (fcons u f))) → TermSpelled (node s k p (fcons u f))
    unfolding term_text
    branch_step s k p fit i rest h close =
        let st : Stands t i (name s ++ (40 ∷ inner ++ rest)) = stands_as t i _ _ (append_assoc (name s) (40 ∷ inner) rest) h in
        let at_bracket : Stands t (i + length (name s)) (40 ∷ inner ++ rest) = behind t i (name s) (40 ∷ inner ++ rest) st in
        let (kind, payload) = fit.bare (omega (arith, fit.as_many)) in
        let y = length-append (name s) (40 ∷ inner) in
        let z : i + length (name s) + length (40 ∷ inner) ≡ i + length (name s ++ 40 ∷ inner) = omega arith in
        subst (λ x. x) (λ j. TermAt symbol t i (node s (sym kind j) (sym payload j) (fcons u f)) (z j))
        (branch (name_spelled s fit.known i (40 ∷ inner ++ rest) st opening) (head_of t (i + length (name s)) (40 ∷ inner ++ rest) at_bracket)
        (list_spelled 40 (i + length (name s)) rest at_bracket))

  mutual
    unfolding FitTree

    -- THE TEXT OF A TREE SPELLS THE TREE
    pub term_spelled : (u : Tree) → FitTree A u → TermSpelled u
    term_spelled (node s k p f) h = behind_spelled f h.1 s k p h.0

    behind_spelled : (f : Forest) → FitForest A f → (s k p : ℕ) → Fit A s k p (length (trees f)) → TermSpelled (node s k p f)
    behind_spelled fnil h s k p fit = leaf_step s k p fit
    behind_spelled (fcons u f) h s k p fit = branch_step u f (term_spelled u h.0) (rest_spelled f h.1) s k p fit

    rest_spelled : (f : Forest) → FitForest A f → RestSpelled f
    rest_spelled fnil h = last_step
    rest_spelled (fcons u f) h = more_step u f (term_spelled u h.0) (rest_spelled f h.1)
