-- The limits of document 01, sections "Sets", "Documents" and "Runs", and of document 02, Wish 2, for tags, each stated once. Assumes nothing.
use Rattle.std.specs.Prelude.{ℕ}

abbrev pub max_symbols : ℕ
max_symbols = 64

abbrev pub max_children : ℕ
max_children = 4

abbrev pub max_states : ℕ
max_states = 256

abbrev pub max_tags : ℕ
max_tags = 16

abbrev pub max_rules : ℕ
max_rules = 1024

abbrev pub max_rows : ℕ
max_rows = 1024

abbrev pub max_levels : ℕ
max_levels = 256

abbrev pub max_steps : ℕ
max_steps = 4096

-- what a place holds that names no state, row or step
abbrev pub unused : ℕ
unused = 65535
