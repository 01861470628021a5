-- The stored forms of an automaton, and bytes put into a lent space (document 01, section "Sets"; document 02, Wishes 2 and 9). Assumes nothing.
use Rattle.std.specs.Prelude.{◌≡◌, List, [], ◌∷◌, ◌++◌, Bool, cond, ℕ, zero, suc, ◌+◌, ◌/◌, ◌%◌, length, drop}
use Rattle.model.specs.Limits.{max_children}
use Rattle.model.specs.Lists.{concat_map, tab}
use Rattle.model.specs.Automaton.{Rule, State, Automaton}
use Rattle.model.specs.Order.{place}
use Rattle.model.specs.Space.{fits_at?, put_at}
use Rattle.automaton.specs.Form.{header_width, states_offset, rules_offset, total_length}
use Rattle.automaton.specs.declared.Form.{Form}
use Rattle.automaton.specs.declared.Form.TheVariants.{Narrow, Wide, Isolating}

-- a number's lowest byte, alone
abbrev pub encode_byte : ℕ → List ℕ
encode_byte x = x % 256 ∷ []

-- a number's lowest 16 bits, low byte first
abbrev pub encode_word : ℕ → List ℕ
encode_word x = x % 256 ∷ x / 256 % 256 ∷ []

-- the header of S symbols, Q states, T tags and R rules
unfoldable pub encode_header : Form → ℕ → ℕ → ℕ → ℕ → List ℕ
encode_header form S Q T R =
    concat_map encode_word (S ∷ Q ∷ T ∷ R ∷ header_width ∷ states_offset S ∷ rules_offset form S Q ∷ total_length form S Q R ∷ [])

-- a symbol: its number of children
unfoldable pub encode_symbol : ℕ → List ℕ
encode_symbol arity = encode_byte arity

-- tags, as a form has them
unfoldable pub encode_tags : Form → ℕ → List ℕ
encode_tags Narrow mask = encode_byte mask
encode_tags Wide mask = encode_word mask
encode_tags Isolating mask = encode_word mask

-- a state: 1 where it is final, then its tags
unfoldable pub encode_state : Form → Bool → ℕ → List ℕ
encode_state form final mask = cond final 1 0 ∷ encode_tags form mask

-- the tags that a rule forgets, where a form has a number for them
unfoldable pub mask_numbers : Form → ℕ → List ℕ
mask_numbers Narrow mask = []
mask_numbers Wide mask = []
mask_numbers Isolating mask = mask ∷ []

-- a rule with these child places: its symbol, its target, the places, the tags that it forgets
unfoldable pub encode_places : Form → ℕ → ℕ → List ℕ → ℕ → List ℕ
encode_places form symbol target places mask = concat_map encode_word (symbol ∷ target ∷ places ++ mask_numbers form mask)

-- the same of a rule
abbrev pub encode_rule : Form → Rule → List ℕ
encode_rule form r = encode_places form r.symbol r.target (tab max_children (place r)) r.forget

-- states in their order
abbrev pub encode_states : Form → List State → List ℕ
encode_states form = concat_map (λ q. encode_state form q.final q.mask)

-- An automaton, stored in a form.
unfoldable pub encode : Form → Automaton → List ℕ
encode form A =
    encode_header form (length A.arities) (length A.states) A.tags (length A.rules)
    ++ concat_map encode_symbol A.arities
    ++ encode_states form A.states
    ++ concat_map (encode_rule form) A.rules

-- how many bytes that is
abbrev pub encoded_length : Form → Automaton → ℕ
encoded_length form A = total_length form (length A.arities) (length A.states) (length A.rules)

-- the space after a number: an automaton stored at its front and the rest unchanged where the number is 0, else all as it was
abbrev pub space_of : ℕ → Form → Automaton → List ℕ → List ℕ
space_of zero form A space = encode form A ++ drop (encoded_length form A) space
space_of (suc n) form A space = space

-- the place after the bytes, where they fit whole; else the place itself
unfoldable pub place_after : List ℕ → ℕ → List ℕ → ℕ
place_after out at bytes = cond (fits_at? out at bytes) (at + length bytes) at

-- the bytes put at this place of the space: what it holds then, and the place that is answered
pub record Put (out : List ℕ) (at : ℕ) (bytes out' : List ℕ) (r : ℕ) : Type 0 where
  pub space : out' ≡ put_at out at bytes
  pub place : r ≡ place_after out at bytes
