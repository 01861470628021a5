-- Row numbers fall: a term's list is that of its row, and the terms of a list are lower rows. At the head of the list writer's loop the text so far stands before what is still to be written.
-- Assumes nothing.
use Prim.Native.Nat.{◌+◌, ◌*◌}
use mathlib.Core.Path.{◌≡◌}
use lib.ListN.{length}
use Rattle.names.specs.Table.{name_in}
use Rattle.spelling.specs.Rows.{row_text}
use Rattle.spelling.proofs.Putting.{Listing}
use Rattle.spelling.proofs.writer.+arguments_term.Given as goal

abbrev pub decreases-arguments : goal.decreases-arguments
decreases-arguments l = 2 * l.i.0

abbrev pub invariant-arguments-loop-k : goal.invariant-arguments-loop-k
invariant-arguments-loop-k l = Listing (row_text (name_in l.names) l.rows) l.rows l.i.0 l.initial.out l.at l.lead l.k l.p l.out × (length l.out ≡ length l.initial.out)

abbrev pub decreases-term : goal.decreases-term
decreases-term l = 2 * l.i.0 + 1
