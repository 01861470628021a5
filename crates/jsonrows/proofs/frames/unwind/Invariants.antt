-- At the loop's head the rows below level l are made. Assumes nothing.
use Prim.Native.Nat.{◌-◌}
use Rattle.jsonrows.specs.Grammar.{good}
use Rattle.jsonrows.specs.State.{built_of}
use Rattle.jsonrows.specs.Frames.{joins}
use Rattle.jsonrows.proofs.Framing.{Unwinding}
use Rattle.jsonrows.proofs.frames.unwind.Given as goal

abbrev pub invariant-loop-l : goal.invariant-loop-l
invariant-loop-l l = Unwinding l.source.text.now l.initial.tables.starts l.frames l.fn.last.counts.used l.fn.last.counts.texts l.source.limit l.low l.top (joins l.source.limit l.frames l.low (l.top - l.low) (good l.fn.last.row.0 l.fn.last.next (built_of l.source.text.now l.initial.tables l.fn.last.counts))) l.tables.rows l.tables.slots l.tables.starts l.tables.found l.part l.l
