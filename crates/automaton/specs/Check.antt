-- Which number refuses stored bytes (document 01, section "Turned away, by place", place "set"; document 02, Wishes 2 and 9); 0 for none. Assumes nothing.
use Rattle.std.specs.Prelude.{List, Bool, ◌&&◌, cond, ℕ, ◌+◌, ◌-◌, ◌^◌, leb, ltb, eqb, length}
use Rattle.model.specs.Limits.{max_symbols, max_children, max_states, max_tags, max_rules, unused}
use Rattle.model.specs.Lists.{tab, all_below}
use Rattle.model.specs.Order.{lower?}
use Rattle.model.specs.Refusal.{demand}
use Rattle.automaton.specs.Form.{header_width, tag_bits, states_offset, rules_offset, total_length}
use Rattle.automaton.specs.Stored.{symbol_count, state_count, tag_count, rule_count, symbols_at, states_at, rules_at, stated_total, form_of, symbol_byte, final_byte, tags_of, rule_word, place_word, forget_of}

-- 2: each count in its range
unfoldable pub counts_ok : List ℕ → Bool
counts_ok s =
    leb 1 (symbol_count s)
    && leb (symbol_count s) max_symbols
    && leb 1 (state_count s)
    && leb (state_count s) max_states
    && leb (tag_count s) max_tags
    && leb (rule_count s) max_rules

-- 3: each offset, the total and the length as the counts and the form ask, and no more tags than the form has bits for
unfoldable pub offsets_ok : List ℕ → Bool
offsets_ok s =
    eqb (symbols_at s) header_width
    && eqb (states_at s) (states_offset (symbol_count s))
    && eqb (rules_at s) (rules_offset (form_of s) (symbol_count s) (state_count s))
    && eqb (stated_total s) (total_length (form_of s) (symbol_count s) (state_count s) (rule_count s))
    && eqb (length s) (total_length (form_of s) (symbol_count s) (state_count s) (rule_count s))
    && leb (tag_count s) (tag_bits (form_of s))

-- 4: symbol i has few children
unfoldable pub symbol_ok : List ℕ → ℕ → Bool
symbol_ok s i = leb (symbol_byte s i) max_children

-- 5: state q is final or not, and its tags are below the number of tags
unfoldable pub state_ok : List ℕ → ℕ → Bool
state_ok s q = leb (final_byte s q) 1 && ltb (tags_of s q) (2 ^ tag_count s)

-- 6: child place k of rule i holds a state where the symbol has that child, else 65535
unfoldable pub place_ok : List ℕ → ℕ → ℕ → Bool
place_ok s i k =
    cond (ltb k (symbol_byte s (rule_word s i 0))) (ltb (place_word s i k) (state_count s)) (eqb (place_word s i k) unused)

-- and rule i has a symbol and a target that the set has
unfoldable pub rule_ok : List ℕ → ℕ → Bool
rule_ok s i = ltb (rule_word s i 0) (symbol_count s) && ltb (rule_word s i 1) (state_count s) && all_below max_children (place_ok s i)

-- what rules are sorted by, number k: the symbol, the child places left to right, the target
unfoldable pub key_word : List ℕ → ℕ → ℕ → ℕ
key_word s i k = cond (eqb k 0) (rule_word s i 0) (cond (leb k max_children) (place_word s i (k - 1)) (rule_word s i 1))

-- 7: rule i stands before the next
unfoldable pub ascends_at : List ℕ → ℕ → Bool
ascends_at s i = lower? (tab (max_children + 2) (key_word s i)) (tab (max_children + 2) (key_word s (i + 1)))

-- 9: the tags that rule i forgets are below the number of tags
unfoldable pub forget_ok : List ℕ → ℕ → Bool
forget_ok s i = ltb (forget_of s i) (2 ^ tag_count s)

-- The number, each test over the whole input before the next; 1 is fewer bytes than a header has.
unfoldable pub check_of : List ℕ → ℕ
check_of s =
    demand (leb header_width (length s)) 1
    (demand (counts_ok s) 2
    (demand (offsets_ok s) 3
    (demand (all_below (symbol_count s) (symbol_ok s)) 4
    (demand (all_below (state_count s) (state_ok s)) 5
    (demand (all_below (rule_count s) (rule_ok s)) 6
    (demand (all_below (rule_count s - 1) (ascends_at s)) 7
    (demand (all_below (rule_count s) (forget_ok s)) 9 0)))))))
