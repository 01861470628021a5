-- At the loop's head the digits so far are summed, and there is room for one more. Assumes nothing.
use mathlib.Core.Path.{◌≡◌}
use Rattle.classes.specs.Classes.{class_table}
use Rattle.jsontext.specs.NumberAnswer.{Within, Summed}
use Rattle.jsontext.proofs.digits.few_digits.Given as goal

abbrev pub invariant-loop-i : goal.invariant-loop-i
invariant-loop-i l = Within l.before l.at l.last l.value l.i × (l.classes ≡ class_table → Summed l.text l.before l.at l.value l.i)
