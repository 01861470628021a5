-- The level falls: a term's list has one less, and the terms of a list have the list's. At the head of the list reader's loop the children so far stand before what is still to be read. Assumes nothing.
use Prim.Native.Nat.{◌+◌, ◌-◌, ◌*◌}
use mathlib.Core.Path.{◌≡◌}
use lib.ListN.{length}
use Rattle.document.specs.Rows.{rows_below}
use Rattle.document.specs.declared.scalar.Scalar.TheVariants.{Bare}
use Rattle.term.specs.Grammar.{read_term}
use Rattle.term.specs.State.{setting_of}
use Rattle.term.proofs.Listing.{Listing}
use Rattle.term.proofs.reader.+arguments_term.Given as goal

abbrev pub decreases-arguments : goal.decreases-arguments
decreases-arguments l = 2 * l.level + 1

abbrev pub invariant-arguments-loop-child : goal.invariant-arguments-loop-child
invariant-arguments-loop-child l = Listing (read_term (setting_of l.source.set.now l.source.names.now l.source.symbols l.source.limit) l.source.text.now l.level) l.source.text.now l.start (rows_below l.initial.rows l.used) l.source.limit l.rows l.slots l.at l.known l.count l.fields.places × (length l.rows ≡ length l.initial.rows) × (l.fields.symbol ≡ l.symbol) × (l.fields.scalar ≡ Bare)

abbrev pub decreases-arguments-loop-child : goal.decreases-arguments-loop-child
decreases-arguments-loop-child l = length l.source.text.now - l.at

abbrev pub decreases-term : goal.decreases-term
decreases-term l = 2 * l.level
