-- The pairs of a rule with the rules of an automaton are those with its window; how many pairs there are. Assumes nothing.
use mathlib.Core.Path.{◌≡◌, refl, sym, ap, ◌∙◌, subst}
use mathlib.Core.List.Memᴰ.{head as here}
use mathlib.Core.List.Memᴰ.{tail as there}
use mathlib.Core.List.{List, [], ◌∷◌, ◌++◌, map, append-nil, Memᴰ as In}
use Prim.Native.Nat.{ℕ, ◌+◌, ◌-◌, ◌*◌, ◌<◌, ◌≤◌}
use native.Mathlib.Numerals.{add-one}
use native.Mathlib.Omega.{arith}
use native.Mathlib.Decide.{dec_lt}
use borrow.Author.Tests.{eq-eqb, ne_eqb}
use lib.Dec.{eqb}
use lib.ListN.{length, get_or, take, drop, length-append, length-drop, length-map}
use lib.Seq.{slice, length-slice, length-take-le, get_or-take, get_or-drop, take_all}
use Rattle.model.specs.Lists.{concat_map, only}
use Rattle.model.specs.Automaton.{Rule, Automaton}
use Rattle.model.specs.Written.{no_rule, rule_at}
use Rattle.model.specs.Boolean.{pair_rule, pair_rules, product}
use Rattle.model.proofs.Pairwise.{in_index}
use Rattle.model.proofs.Members.{map_at}
use Rattle.model.proofs.SoundProduct.{product_rules}
use Rattle.boolean.specs.Key.{packed}
use Rattle.boolean.specs.Ready.{Window, row}
use Rattle.automaton.proofs.Parts.{concat_map_append, concat_map_more}
use Rattle.boolean.proofs.Concat.{slice_at, slice_parts}

-- a window ends where it starts or later
module _ (B : Automaton) (f from to : ℕ) (w : Window B f from to) where
  pub window_up : from ≤ to
  window_up = go (dec_lt to from)
    where
      go : Dec (to < from) → from ≤ to
      go (no l) = omega arith
      go (yes l) =
          let a = w.starts.before to l in
          let b = w.stops.after to (omega arith) (let m = w.starts.within in omega arith) in
          omega arith

module _ (t : ℕ) (B : Automaton) (r : Rule) where
  abbrev n : ℕ
  n = length B.states

  abbrev pairs_of : Rule → List Rule
  pairs_of s = only (eqb r.symbol s.symbol) (pair_rule n t r s ∷ [])

  no_pairs : (ss : List Rule) → ((s : Rule) → In s ss → r.symbol ≡ s.symbol → ⊥) → concat_map pairs_of ss ≡ []
  no_pairs [] h = refl
  no_pairs (s ∷ ss) h = rw (ne_eqb r.symbol s.symbol (h s (here refl))) (no_pairs ss (λ z m. h z (there m)))

  all_pairs : (ss : List Rule) → ((s : Rule) → In s ss → r.symbol ≡ s.symbol) → concat_map pairs_of ss ≡ map (pair_rule n t r) ss
  all_pairs [] h = refl
  all_pairs (s ∷ ss) h = rw (eq-eqb r.symbol s.symbol (h s (here refl))) (ap (pair_rule n t r s ∷◌) (all_pairs ss (λ z m. h z (there m))))

  module _ (from to : ℕ) (w : Window B r.symbol from to) where
    outside_before : (s : Rule) → In s (take from B.rules) → r.symbol ≡ s.symbol → ⊥
    outside_before s m e =
        let (j, l, g) = in_index no_rule m in
        let k = length-take-le from B.rules w.starts.within in
        let a = w.starts.before j (omega arith) in
        let x = ap (λ (z : Rule). z.symbol) (sym (get_or-take from B.rules j no_rule (omega arith)) ∙ g) in
        omega arith

    inside : (s : Rule) → In s (slice from to B.rules) → r.symbol ≡ s.symbol
    inside s m =
        let (j, l, g) = in_index no_rule m in
        let k = length-slice from to B.rules w.stops.within in
        let u = window_up B r.symbol from to w in
        let v = w.stops.within in
        let x = ap (λ (z : Rule). z.symbol) (sym (slice_at B.rules from to no_rule j (omega arith)) ∙ g) in
        let a = w.starts.after (from + j) (omega arith) (omega arith) in
        let b = w.stops.before (from + j) (omega arith) in
        omega arith

    outside_after : (s : Rule) → In s (drop to B.rules) → r.symbol ≡ s.symbol → ⊥
    outside_after s m e =
        let (j, l, g) = in_index no_rule m in
        let k = length-drop to B.rules in
        let a = w.stops.after (to + j) (omega arith) (omega arith) in
        let x = ap (λ (z : Rule). z.symbol) (sym (get_or-drop to B.rules j no_rule) ∙ g) in
        omega arith

    -- The pairs of a rule are those with its window.
    pub row_window : row t B r ≡ map (pair_rule n t r) (slice from to B.rules)
    row_window =
        ap (concat_map pairs_of) (slice_parts B.rules from to (window_up B r.symbol from to w))
        ∙ concat_map_append pairs_of (take from B.rules ++ slice from to B.rules) (drop to B.rules)
        ∙ ap (◌++ concat_map pairs_of (drop to B.rules)) (concat_map_append pairs_of (take from B.rules) (slice from to B.rules))
        ∙ ap (λ (z : List Rule). z ++ concat_map pairs_of (slice from to B.rules) ++ concat_map pairs_of (drop to B.rules)) (no_pairs (take from B.rules) outside_before)
        ∙ ap (λ (z : List Rule). concat_map pairs_of (slice from to B.rules) ++ z) (no_pairs (drop to B.rules) outside_after)
        ∙ append-nil (concat_map pairs_of (slice from to B.rules))
        ∙ all_pairs (slice from to B.rules) inside

    length_window : length (slice from to B.rules) ≡ to - from
    length_window = length-slice from to B.rules w.stops.within

    pub row_length_lem : length (row t B r) ≡ to - from
    row_length_lem = ap length row_window ∙ length-map (slice from to B.rules) (pair_rule n t r) ∙ length_window

    pub row_at_lem : (k : ℕ) → k < to - from → get_or (map packed (row t B r)) k 0 ≡ packed (pair_rule n t r (rule_at B (from + k)))
    row_at_lem k l =
        let m : k < length (slice from to B.rules) = (let z = length_window in omega arith) in
        map_at packed no_rule 0 (row t B r) k (let z = row_length_lem in omega arith)
        ∙ ap (λ (z : List Rule). packed (get_or z k no_rule)) row_window
        ∙ ap packed (map_at (pair_rule n t r) no_rule no_rule (slice from to B.rules) k m)
        ∙ ap (λ (z : Rule). packed (pair_rule n t r z)) (slice_at B.rules from to no_rule k (omega arith))

-- A loop that counts the pairs: at its head total are those of the first i rules.
pub record Counted (A B : Automaton) (total i : ℕ) : Type 0 where
  pub count : total ≡ length (pair_rules (length B.states) A.tags (take i A.rules) B.rules)
  pub few : i ≤ length A.rules
  pub bound : total ≤ i * 65536

module _ (A B : Automaton) where
  pub counted_none : Counted A B 0 0
  counted_none = record { count = refl; few = omega arith; bound = omega arith }

  pub counted_more : (total i from to : ℕ) → Counted A B total i → i < length A.rules → Window B (rule_at A i).symbol from to → to < 65536 → Counted A B (total + (to - from)) (i + 1)
  counted_more total i from to h l w b =
      let e = ap length (concat_map_more (row A.tags B) no_rule A.rules i l) in
      let d = length-append (concat_map (row A.tags B) (take i A.rules)) (row A.tags B (rule_at A i)) in
      let k = row_length_lem A.tags B (rule_at A i) from to w in
      let c = h.count in
      let o = h.bound in
      record { count = subst (λ (j : ℕ). total + (to - from) ≡ length (concat_map (row A.tags B) (take j A.rules))) (sym (add-one i)) (omega arith); few = omega arith; bound = omega arith }

  pub counted_all : (total i : ℕ) → Counted A B total i → length A.rules ≤ i → total ≡ length (product A B).rules
  counted_all total i h l = h.count ∙ ap (λ (z : List Rule). length (concat_map (row A.tags B) z)) (take_all i A.rules l) ∙ sym (product_rules A B)
