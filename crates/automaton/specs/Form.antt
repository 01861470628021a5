-- The three stored forms: their widths and places, each stated once (document 01, section "Sets"; document 02, Wishes 2 and 9). Assumes nothing.
use Rattle.std.specs.Prelude.{◌≡◌, Bool, true, false, ℕ, ◌+◌, ◌*◌, ◌≤◌}
use mathlib.Core.List.{Memᴰ as In}
use Rattle.model.specs.Automaton.{Rule, Automaton}
use Rattle.automaton.specs.declared.Form.{Form}
use Rattle.automaton.specs.declared.Form.TheVariants.{Narrow, Wide, Isolating}

-- the bytes of the header, in every form
abbrev pub header_width : ℕ
header_width = 16

-- the bytes of a state's tags
unfoldable pub tags_width : Form → ℕ
tags_width Narrow = 1
tags_width Wide = 2
tags_width Isolating = 2

-- a state: whether it is final, then its tags
unfoldable pub state_width : Form → ℕ
state_width form = 1 + tags_width form

-- how many numbers a rule has: its symbol, its target, four child places, and in the last form the tags that it forgets
unfoldable pub rule_numbers : Form → ℕ
rule_numbers Narrow = 6
rule_numbers Wide = 6
rule_numbers Isolating = 7

-- a rule, two bytes a number
unfoldable pub rule_width : Form → ℕ
rule_width form = 2 * rule_numbers form

-- how many tags there are bits for
abbrev pub tag_bits : Form → ℕ
tag_bits form = 8 * tags_width form

-- where the states and the rules of S symbols and Q states begin
abbrev pub states_offset : ℕ → ℕ
states_offset S = header_width + S

abbrev pub rules_offset : Form → ℕ → ℕ → ℕ
rules_offset form S Q = states_offset S + state_width form * Q

-- the bytes of S symbols, Q states and R rules in all
abbrev pub total_length : Form → ℕ → ℕ → ℕ → ℕ
total_length form S Q R = rules_offset form S Q + rule_width form * R

-- whether rules in a form have a place for the tags that they forget
abbrev pub isolating? : Form → Bool
isolating? Narrow = false
isolating? Wide = false
isolating? Isolating = true

-- what a form keeps of the mask of tags that a rule forgets: nothing where rules have no place for it
unfoldable pub kept_mask : Form → ℕ → ℕ
kept_mask Narrow mask = 0
kept_mask Wide mask = 0
kept_mask Isolating mask = mask

-- A form has room for an automaton: bits for its tags, and a place for what its rules forget, if they do.
pub record HasRoom (form : Form) (A : Automaton) : Type 0 where
  pub bits : A.tags ≤ tag_bits form
  pub masks : (r : Rule) → In r A.rules → kept_mask form r.forget ≡ r.forget
