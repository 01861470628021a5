-- The lengths of the rows passed are known, and all fit. Assumes nothing.
use mathlib.Core.Path.{◌≡◌}
use Rattle.names.specs.Table.{name_in}
use Rattle.document.specs.Check.{row_count}
use Rattle.spelling.proofs.Summing.{Lengths}
use Rattle.spelling.proofs.lengths.text_length.Given as goal

abbrev pub invariant-loop-i : goal.invariant-loop-i
invariant-loop-i l = (l.n ≡ row_count l.rows) × Lengths (name_in l.names) l.rows l.space l.lengths l.i
