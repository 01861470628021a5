-- 22 and 23 at one step, from what was read. Assumes nothing.
use mathlib.Core.Path.{◌≡◌, sym, ap, ◌∙◌}
use mathlib.Core.List.{List}
use mathlib.Core.Bool.{Bool, false, ◌&&◌}
use Prim.Native.Nat.{ℕ, ◌/◌, ◌<◌, ◌≤◌}
use borrow.Author.Rules.{rules}
use borrow.Author.Tests.{lt-ltb, le-ltb, eq-eqb, ne_eqb}
use lib.Dec.{eqb, ltb}
use lib.ListN.{length, get_or}
use Rattle.model.specs.Limits.{max_children, unused}
use Rattle.model.specs.Lists.{all_below}
use Rattle.model.specs.Automaton.{Automaton}
use Rattle.model.specs.Order.{place}
use Rattle.model.specs.Table.{Row}
use Rattle.model.specs.Written.{Step, step_at, rule_at, rule_of, row_of}
use Rattle.model.specs.WrittenTest.{known?, child_fits?, place_fits?, step_fits?}
use Rattle.model.proofs.Members.{T_true}
use Rattle.model.proofs.WrittenTest.{known_row, place_with, place_without}
use Rattle.automaton.specs.Stored.{decode}
use Rattle.document.specs.Rows.{row_cells, row_in, decode_rows}
use Rattle.document.specs.Check.{place_in as row_place_in}
use Rattle.document.proofs.Places.{row_at_lem, rows_length}
use Rattle.runs.specs.Steps.{place_in, decode_steps}
use Rattle.runs.specs.Passes.{Known}
use Rattle.runs.proofs.Sound.{place_child, has_child, no_child}

-- 22, from the rule u, the row r and the two counts
pub known_is : (A : Automaton) (doc run : List ℕ) (i u r s m n : ℕ) → u ≡ (step_at (decode_steps run) i).rule → m ≡ length A.rules → r ≡ (step_at (decode_steps run) i).row → s ≡ r → n ≡ length doc / row_cells
    → (ltb u m && ltb s n) ≡ known? A (decode_rows doc) (decode_steps run) i
known_is A doc run i u r s m n eu em er es en =
    let es' : s ≡ (step_at (decode_steps run) i).row = es ∙ er in
    let en' : n ≡ length (decode_rows doc) = en ∙ sym (rows_length doc) in
    λ j. ltb (eu j) (em j) && ltb (es' j) (en' j)

-- 23 at place k of step i that holds x: the step x is on the row and in the state that are asked
module _ (A : Automaton) (rows : List Row) (run : List Step) (i k x : ℕ) where
  abbrev asked? : Bool
  asked? = eqb (step_at run x).row (get_or (row_of rows run i).children k unused) && eqb (rule_of A run x).target (place (rule_of A run i) k)

  child_low : x < i → child_fits? A rows run i k x ≡ asked?
  unfolding child_fits?
  child_low l = ap (λ (b : Bool). b && asked?) (lt-ltb x i l)

  child_high : i ≤ x → child_fits? A rows run i k x ≡ false
  unfolding child_fits?
  child_high l = ap (λ (b : Bool). b && asked?) (le-ltb x i l)

module _ (set doc run : List ℕ) (i : ℕ) (h : Known set doc run i) where
  row_known : (step_at (decode_steps run) i).row < length (decode_rows doc)
  row_known = known_row (decode set) (decode_rows doc) (decode_steps run) i ((T_true (known? (decode set) (decode_rows doc) (decode_steps run) i)).1 h.known)

  -- place k holds x, the row is r, and its place k holds c
  module _ (k x r c : ℕ) (ex : x ≡ place_in run i k) (er : r ≡ (step_at (decode_steps run) i).row) (ec : c ≡ row_place_in doc r k) where
    child_is : c ≡ get_or (row_of (decode_rows doc) (decode_steps run) i).children k unused
    child_is = ec ∙ ap (λ (n : ℕ). row_place_in doc n k) er ∙ place_child set doc h.sound (step_at (decode_steps run) i).row row_known k

    place_is : place_fits? (decode set) (decode_rows doc) (decode_steps run) i k x ≡ place_fits? (decode set) (decode_rows doc) (decode_steps run) i k (place_in run i k)
    place_is = ap (place_fits? (decode set) (decode_rows doc) (decode_steps run) i k) ex

    pub without_child : c ≡ unused → eqb x unused ≡ place_fits? (decode set) (decode_rows doc) (decode_steps run) i k (place_in run i k)
    without_child e =
        sym (place_without (decode set) (decode_rows doc) (decode_steps run) i k x (no_child set doc h.sound (step_at (decode_steps run) i).row row_known k (sym child_is ∙ e)))
        ∙ place_is

    with_child_lem : (c ≡ unused → ⊥) → child_fits? (decode set) (decode_rows doc) (decode_steps run) i k x ≡ place_fits? (decode set) (decode_rows doc) (decode_steps run) i k (place_in run i k)
    with_child_lem n =
        sym (place_with (decode set) (decode_rows doc) (decode_steps run) i k x (has_child set doc h.sound (step_at (decode_steps run) i).row row_known k (λ e. n (child_is ∙ e))))
        ∙ place_is

    pub not_lower : (c ≡ unused → ⊥) → i ≤ x → false ≡ place_fits? (decode set) (decode_rows doc) (decode_steps run) i k (place_in run i k)
    not_lower n l = sym (child_high (decode set) (decode_rows doc) (decode_steps run) i k x l) ∙ with_child_lem n

    -- the lower step x is on row o in state q; the rule is u, and its place k holds w
    pub lower_child : (o q u w : ℕ) → (c ≡ unused → ⊥) → x < i → o ≡ (step_at (decode_steps run) x).row → q ≡ (rule_of (decode set) (decode_steps run) x).target → u ≡ (step_at (decode_steps run) i).rule → w ≡ place (rule_at (decode set) u) k
        → (eqb o c && eqb q w) ≡ place_fits? (decode set) (decode_rows doc) (decode_steps run) i k (place_in run i k)
    lower_child o q u w n l eo eq eu ew =
        let ew' : w ≡ place (rule_of (decode set) (decode_steps run) i) k = ew ∙ ap (λ (v : ℕ). place (rule_at (decode set) v) k) eu in
        let same : (eqb o c && eqb q w) ≡ asked? (decode set) (decode_rows doc) (decode_steps run) i k x = λ j. eqb (eo j) (child_is j) && eqb (eq j) (ew' j) in
        same ∙ sym (child_low (decode set) (decode_rows doc) (decode_steps run) i k x l) ∙ with_child_lem n

  -- the rule u has the symbol s, the row r the symbol t
  module _ (u r s t : ℕ) (eu : u ≡ (step_at (decode_steps run) i).rule) (es : s ≡ (rule_at (decode set) u).symbol) (er : r ≡ (step_at (decode_steps run) i).row) (et : t ≡ (row_in doc r).symbol) where
    symbols_are : eqb s t ≡ eqb (rule_of (decode set) (decode_steps run) i).symbol (row_of (decode_rows doc) (decode_steps run) i).symbol
    symbols_are =
        let es' : s ≡ (rule_of (decode set) (decode_steps run) i).symbol = es ∙ ap (λ (v : ℕ). (rule_at (decode set) v).symbol) eu in
        let et' : t ≡ (row_of (decode_rows doc) (decode_steps run) i).symbol =
        et ∙ ap (λ (v : ℕ). (row_in doc v).symbol) er ∙ ap (λ (x : Row). x.symbol) (sym (row_at_lem doc (step_at (decode_steps run) i).row (rw (rows_length doc) at row_known))) in
        λ j. eqb (es' j) (et' j)

    pub same_symbol : (b : Bool) → s ≡ t → b ≡ all_below max_children (λ k. place_fits? (decode set) (decode_rows doc) (decode_steps run) i k (place_in run i k)) → b ≡ step_fits? (decode set) (decode_rows doc) (decode_steps run) (place_in run) i
    unfolding step_fits?
    same_symbol b e f = f ∙ ap (λ (a : Bool). a && all_below max_children (λ k. place_fits? (decode set) (decode_rows doc) (decode_steps run) i k (place_in run i k))) (sym (eq-eqb s t e) ∙ symbols_are)

    pub other_symbol : (s ≡ t → ⊥) → false ≡ step_fits? (decode set) (decode_rows doc) (decode_steps run) (place_in run) i
    unfolding step_fits?
    other_symbol n = ap (λ (a : Bool). a && all_below max_children (λ k. place_fits? (decode set) (decode_rows doc) (decode_steps run) i k (place_in run i k))) (sym (ne_eqb s t n) ∙ symbols_are)

pub ruleset fitting = (without_child, not_lower, lower_child, same_symbol, other_symbol, rules)
