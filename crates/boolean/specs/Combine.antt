-- Which number refuses a union or a product of two stored automata (document 01, section "Turned away, by place"; document 02, Wishes 2 and 9). Assumes nothing.
use Rattle.std.specs.Prelude.{List, Bool, ◌&&◌, ◌||◌, cond, ℕ, leb, eqb, length}
use Rattle.model.specs.Limits.{max_states, max_tags, max_rules}
use Rattle.model.specs.Lists.{all_below}
use Rattle.model.specs.Refusal.{demand, and_after}
use Rattle.model.specs.Automaton.{Automaton, arity_of}
use Rattle.automaton.specs.Form.{isolating?}
use Rattle.automaton.specs.Stored.{form_of, decode}
use Rattle.automaton.specs.Check.{check_of}
use Rattle.automaton.specs.declared.Form.{Form}
use Rattle.automaton.specs.declared.Form.TheVariants.{Wide, Isolating}
use Rattle.automaton.specs.Encode.{encoded_length}

-- the form that a union and a product are written in: with that place if either input has it, else the wide one
unfoldable pub result_form : List ℕ → List ℕ → Form
result_form first second = cond (isolating? (form_of first) || isolating? (form_of second)) Isolating Wide

-- 51: as many symbols, each with as many children
unfoldable pub same_symbols : Automaton → Automaton → Bool
same_symbols A B = eqb (length A.arities) (length B.arities) && all_below (length A.arities) (λ f. eqb (arity_of A f) (arity_of B f))

-- 52: so many states, tags and rules are within the limits
unfoldable pub within_limits : ℕ → ℕ → ℕ → Bool
within_limits states tags rules = leb states max_states && leb tags max_tags && leb rules max_rules

-- 52 and 53: the result in a form and a space of so many bytes
unfoldable pub result_check_of : Form → Automaton → ℕ → ℕ
result_check_of form R space =
    demand (within_limits (length R.states) R.tags (length R.rules)) 52
    (demand (leb (encoded_length form R) space) 53 0)

-- The number for two sets of which `result` is to be made in a space of so many bytes, 0 for none: the first set, the second, then both.
unfoldable pub combine_check_of : (Automaton → Automaton → Automaton) → List ℕ → List ℕ → ℕ → ℕ
combine_check_of result first second space =
    and_after (check_of first)
    (and_after (check_of second)
    (demand (same_symbols (decode first) (decode second)) 51
    (result_check_of (result_form first second) (result (decode first) (decode second)) space)))
