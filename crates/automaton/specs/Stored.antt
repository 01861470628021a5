-- What stored bytes stand for, in whichever form they are (document 01, section "Sets"; document 02, Wishes 2 and 9): a byte past the end counts as 0. Assumes nothing.
use Rattle.std.specs.Prelude.{List, ℕ, ◌+◌, ◌*◌, cond, eqb, ltb, get_or}
use Rattle.model.specs.Limits.{max_children, unused}
use Rattle.model.specs.Lists.{tab}
use Rattle.model.specs.Automaton.{Rule, State, Automaton}
use Rattle.automaton.specs.Form.{state_width, rule_width, kept_mask}
use Rattle.automaton.specs.declared.Form.{Form}
use Rattle.automaton.specs.declared.Form.TheVariants.{Narrow, Wide, Isolating}

-- the 16-bit number at byte k, low byte first
unfoldable pub word : List ℕ → ℕ → ℕ
word s k = get_or s k 0 + 256 * get_or s (k + 1) 0

-- the header's eight numbers
abbrev pub symbol_count : List ℕ → ℕ
symbol_count s = word s 0

abbrev pub state_count : List ℕ → ℕ
state_count s = word s 2

abbrev pub tag_count : List ℕ → ℕ
tag_count s = word s 4

abbrev pub rule_count : List ℕ → ℕ
rule_count s = word s 6

abbrev pub symbols_at : List ℕ → ℕ
symbols_at s = word s 8

abbrev pub states_at : List ℕ → ℕ
states_at s = word s 10

abbrev pub rules_at : List ℕ → ℕ
rules_at s = word s 12

abbrev pub stated_total : List ℕ → ℕ
stated_total s = word s 14

-- Which form the bytes are in. The distance from the states to the rules tells a wide one: so many wide states are as long, three bytes each; at any other
-- distance it is the narrow one, of which 3 refuses all but two bytes each. The total then tells how long the rules are: 12 bytes each, as in the wide form, or
-- else they forget tags, of which 3 refuses all but 14 bytes each. So a wide set with no rules is in the form without masks.
unfoldable pub form_of : List ℕ → Form
form_of s =
    cond (eqb (rules_at s) (states_at s + state_width Wide * state_count s))
    (cond (eqb (stated_total s) (rules_at s + rule_width Wide * rule_count s)) Wide Isolating)
    Narrow

-- the byte of symbol i
unfoldable pub symbol_byte : List ℕ → ℕ → ℕ
symbol_byte s i = get_or s (symbols_at s + i) 0

-- where state q stands
abbrev pub state_place : List ℕ → ℕ → ℕ
state_place s q = states_at s + state_width (form_of s) * q

-- its first byte, which tells whether it is final
unfoldable pub final_byte : List ℕ → ℕ → ℕ
final_byte s q = get_or s (state_place s q) 0

-- the tags at byte k, as a form has them
unfoldable pub tags_at : Form → List ℕ → ℕ → ℕ
tags_at Narrow s k = get_or s k 0
tags_at Wide s k = word s k
tags_at Isolating s k = word s k

-- the tags of state q
unfoldable pub tags_of : List ℕ → ℕ → ℕ
tags_of s q = tags_at (form_of s) s (state_place s q + 1)

-- the 16-bit number k of rule i
unfoldable pub rule_word : List ℕ → ℕ → ℕ → ℕ
rule_word s i k = word s (rules_at s + rule_width (form_of s) * i + 2 * k)

-- what stands in child place k of rule i
abbrev pub place_word : List ℕ → ℕ → ℕ → ℕ
place_word s i k = rule_word s i (k + 2)

-- the same, where the rule's symbol has n children
unfoldable pub place_of : List ℕ → ℕ → ℕ → ℕ → ℕ
place_of s i n k = cond (ltb k n) (place_word s i k) unused

-- the tags that rule i forgets, as its form has them: the number behind the child places
unfoldable pub forget_of : List ℕ → ℕ → ℕ
forget_of s i = kept_mask (form_of s) (rule_word s i (max_children + 2))

-- the number of children of each symbol
abbrev pub arities_of : List ℕ → List ℕ
arities_of s = tab (symbol_count s) (symbol_byte s)

-- state q: final is byte 1
abbrev pub state_of : List ℕ → ℕ → State
state_of s q = record { final = eqb (final_byte s q) 1; mask = tags_of s q }

-- rule i: a child for each that its symbol has
abbrev pub rule_of : List ℕ → ℕ → Rule
rule_of s i = record {
  symbol = rule_word s i 0;
  children = tab (get_or (arities_of s) (rule_word s i 0) 0) (place_word s i);
  target = rule_word s i 1;
  forget = forget_of s i;
}

-- The automaton that bytes stand for, in any form, sound or not.
unfoldable pub decode : List ℕ → Automaton
decode s = record {
  arities = arities_of s;
  states = tab (state_count s) (state_of s);
  tags = tag_count s;
  rules = tab (rule_count s) (rule_of s);
}
