-- The level falls from a value to the items in it, and from one item to the next; what each says of its part is said of the whole. Assumes nothing.
use Prim.Native.Nat.{◌+◌, ◌*◌}
use mathlib.Core.List.{[]}
use Rattle.names.specs.Lines.{lines}
use Rattle.jsonrows.specs.State.{built_of}
use Rattle.jsonrows.specs.Items.{items_at}
use Rattle.jsonrows.proofs.ItemLoop.{Walk}
use Rattle.jsonrows.proofs.reader.+items_value.Given as goal

abbrev pub decreases-items : goal.decreases-items
decreases-items l = 2 * l.level + 1

abbrev pub invariant-items-loop-key : goal.invariant-items-loop-key
invariant-items-loop-key l = Walk l.alone l.object (record { keys = lines l.source.list.now; limit = l.source.limit }) l.source.text.now (l.level + 1) (items_at l.alone l.object l.level (record { keys = lines l.source.list.now; limit = l.source.limit }) l.source.text.now [] l.at (built_of l.source.text.now l.initial.tables l.fn.counts)) l.initial.tables.starts l.initial.opened.pending l.initial.opened.frames l.fn.counts.texts l.tables.rows l.tables.slots l.tables.starts l.tables.found l.opened.pending l.opened.frames l.listed l.n.used l.n.texts l.l l.i

abbrev pub decreases-items-loop-key : goal.decreases-items-loop-key
decreases-items-loop-key l = l.l

abbrev pub decreases-value : goal.decreases-value
decreases-value l = 2 * l.level
