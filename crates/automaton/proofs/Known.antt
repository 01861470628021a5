-- What soundness gives of a value that was read: for the crates above, whose proofs search these. Assumes nothing.
use mathlib.Core.Path.{◌≡◌, ◌∙◌}
use mathlib.Core.Logic.{⊎_elim}
use mathlib.Core.List.{List, map}
use Prim.Native.Nat.{ℕ, ◌+◌, ◌^◌, ◌≤◌, ◌<◌}
use native.Mathlib.Omega.{arith}
use borrow.Author.Rules.{rules}
use lib.ListN.{length}
use Rattle.model.specs.Limits.{max_symbols, max_children, max_states, max_tags, max_rules}
use Rattle.model.specs.Automaton.{Rule, Automaton, arity_of, state_at}
use Rattle.model.specs.Order.{place}
use Rattle.model.specs.Refusal.{unless}
use Rattle.model.specs.Sound.{Sound}
use Rattle.model.specs.Written.{no_rule, rule_at}
use Rattle.model.proofs.Rows.{in_get_d}
use Rattle.std.specs.Prelude.{Result, Ok}
use Rattle.base.specs.declared.refusal.Refusal.{Refusal}
use Rattle.automaton.specs.declared.Form.{Form}
use Rattle.automaton.specs.declared.StoredRule.{StoredRule}
use Rattle.automaton.specs.Answer.{check_answer, IsRule}
use Rattle.automaton.specs.Encode.{encode_places, encode_rule}
use Rattle.automaton.specs.Stored.{decode}
use Rattle.automaton.specs.Check.{check_of}
use Rattle.automaton.specs.Window.{rules_from, FirstFrom}
use Rattle.automaton.proofs.Parts.{below_or}
use Rattle.automaton.proofs.Window.{rules_from_first}
use Rattle.automaton.proofs.Verdict.{passed_zero}
use Rattle.automaton.proofs.Sound.{sound_decode}
use Rattle.automaton.proofs.Encoded.{place_child}

module _ (A : Automaton) (h : Sound A) (x : ℕ) where
  pub known_symbols : x ≡ length A.arities → x ≤ max_symbols
  known_symbols e = rw e h.few_symbols

  pub known_states : x ≡ length A.states → x ≤ max_states
  known_states e = rw e h.few_states

  pub known_tags : x ≡ A.tags → x ≤ max_tags
  known_tags e = rw e h.few_tags

  pub known_rules : x ≡ length A.rules → x ≤ max_rules
  known_rules e = rw e h.few_rules

  pub known_arity : (f : ℕ) → x ≡ arity_of A f → x ≤ max_children
  known_arity f e = rw e (h.few_children f)

  pub known_mask : (q : ℕ) → x ≡ (state_at A q).mask → x < 2 ^ A.tags
  known_mask q e = rw e (h.wellformed.masks q)

  module _ (i : ℕ) (l : i < length A.rules) where
    pub known_symbol : x ≡ (rule_at A i).symbol → x < length A.arities
    known_symbol e = rw e (h.wellformed.symbols (rule_at A i) (in_get_d no_rule A.rules i l))

    pub known_forget : x ≡ (rule_at A i).forget → x < 2 ^ A.tags
    known_forget e = rw e (h.wellformed.forgets (rule_at A i) (in_get_d no_rule A.rules i l))

    pub known_target : x ≡ (rule_at A i).target → x < length A.states
    known_target e = rw e (h.wellformed.targets (rule_at A i) (in_get_d no_rule A.rules i l))

    -- as many children as the symbol has, each a state
    pub known_width : x ≡ length (rule_at A i).children → x ≡ arity_of A (rule_at A i).symbol
    known_width e = e ∙ h.wellformed.as_many (rule_at A i) (in_get_d no_rule A.rules i l)

    pub known_child : (k : ℕ) → k < length (rule_at A i).children → x ≡ place (rule_at A i) k → x < length A.states
    known_child k m e = rw e (place_child A h i l k m)

pub ruleset sounds = (sound_decode, known_symbols, known_states, known_tags, known_rules, known_arity, known_mask, known_symbol, known_target, known_forget, known_child, rules)

-- The rules of symbol f are those from the first whose symbol is not below f to before the first whose symbol is above it.
module _ (A : Automaton) (f low high : ℕ) (a : FirstFrom A f low) (b : FirstFrom A (f + 1) high) where
  pub window_in : (i : ℕ) → low ≤ i → i < high → (rule_at A i).symbol ≡ f
  window_in i l m = let z = b.within in let x = a.after i l (omega arith) in let y = b.before i m in omega arith

  pub window_all : (i : ℕ) → i < length A.rules → (rule_at A i).symbol ≡ f → (low ≤ i) × (i < high)
  window_all i l e = (
    ⊎_elim (λ m. let y = a.before i m in absurd (omega arith)) (λ m. m) (below_or i low),
    ⊎_elim (λ m. m) (λ m. let y = b.after i m l in absurd (omega arith)) (below_or i high),
  )

-- what `rules_from` answered, of a sound set
pub known_first : (s : List ℕ) (f r : ℕ) → check_of s ≡ 0 → r ≡ rules_from (decode s) f → FirstFrom (decode s) f r
known_first s f r h e = rw e (rules_from_first s f h)

-- a rule that was read, or made with its places, is stored as the rule that it is
pub rule_bytes : (form : Form) (x : StoredRule) (r : Rule) → IsRule x r → encode_places form x.symbol x.target.0 (map (λ q. q.0) x.places) x.forget ≡ encode_rule form r
rule_bytes form x r h = rw (h.symbol, h.target, h.places, h.forget)

-- an answer without a number is of a sound automaton
pub checked_sound : (s : List ℕ) (r : Result (Unit {0}) Refusal) → check_answer r ≡ unless (check_of s) tt → r ≡ Ok tt → Sound (decode s)
checked_sound s r e h = sound_decode s (passed_zero r (check_of s) e h)
