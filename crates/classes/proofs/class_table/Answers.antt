-- The constant is the table, computed over all entries. Assumes nothing.
use mathlib.Core.Path.{refl}
use Rattle.classes.specs.Classes.{letter?, digit?, either_hex_digit?, space?, mark?, control?, class_table}
use Rattle.classes.proofs.class_table.Goals as goal

pub returns : goal.returns
unfolding letter? digit? either_hex_digit? space? mark? control? class_table
returns c = refl
