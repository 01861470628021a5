-- Automata: document 01, section "Sets", calls one a set. Assumes nothing.
use mathlib.Core.List.{List, Memᴰ as In}
use Rattle.std.specs.Prelude.{Bool, false, ℕ, ◌<◌, ◌/◌, ◌%◌, ◌^◌, ◌≡◌, eqb, length, get_or}
use Rattle.model.specs.Lists.{all}

-- A rule: a symbol, one state for each child, a target state, and the tags to forget (document 02, Wish 9): bit k of the mask for tag k. A rule of 12 bytes forgets none, 0.
pub record Rule : Type 0 where
  pub symbol : ℕ
  pub children : List ℕ
  pub target : ℕ
  pub forget : ℕ

-- A state may be final and carries tags: bit k of the mask for tag k.
pub record State : Type 0 where
  pub final : Bool
  pub mask : ℕ

-- The symbols are the numbers below the length of `arities`, which has the number of children of each; the states likewise.
pub record Automaton : Type 0 where
  pub arities : List ℕ
  pub states : List State
  pub tags : ℕ
  pub rules : List Rule

abbrev pub no_state : State
no_state = record { final = false; mask = 0 }

abbrev pub state_at : Automaton → ℕ → State
state_at A q = get_or A.states q no_state

abbrev pub arity_of : Automaton → ℕ → ℕ
arity_of A s = get_or A.arities s 0

abbrev pub final? : Automaton → ℕ → Bool
final? A q = (state_at A q).final

-- bit k of a mask
abbrev pub bit? : ℕ → ℕ → Bool
bit? mask k = eqb (mask / 2 ^ k % 2) 1

abbrev pub carries? : Automaton → ℕ → ℕ → Bool
carries? A q k = bit? (state_at A q).mask k

abbrev pub forgets? : Rule → ℕ → Bool
forgets? r k = bit? r.forget k

-- A rule stands once: its symbol, children and target tell what it forgets.
abbrev pub OneRule : Automaton → Type 0
OneRule A = (r s : Rule) → In r A.rules → In s A.rules → r.symbol ≡ s.symbol → r.children ≡ s.children → r.target ≡ s.target → r.forget ≡ s.forget

-- No rule names a tag to forget.
abbrev pub ForgetsNothing : Automaton → Type 0
ForgetsNothing A = (r : Rule) → In r A.rules → r.forget ≡ 0

-- The same as a test.
abbrev pub forgets_nothing? : Automaton → Bool
forgets_nothing? A = all (λ r. eqb r.forget 0) A.rules

-- What the theorems ask of an automaton: rules speak of its symbols and states, with a state for each child; masks of its tags.
pub record Wellformed (A : Automaton) : Type 0 where
  pub targets : (r : Rule) → In r A.rules → r.target < length A.states
  pub children : (r : Rule) → In r A.rules → (q : ℕ) → In q r.children → q < length A.states
  pub symbols : (r : Rule) → In r A.rules → r.symbol < length A.arities
  pub as_many : (r : Rule) → In r A.rules → length r.children ≡ arity_of A r.symbol
  pub masks : (q : ℕ) → (state_at A q).mask < 2 ^ A.tags
  pub forgets : (r : Rule) → In r A.rules → r.forget < 2 ^ A.tags
