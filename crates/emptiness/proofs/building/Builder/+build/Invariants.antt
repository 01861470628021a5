-- `emptiness::building::Builder::build` meets its contract: the measure is the number of levels left. Assumes nothing.
use mathlib.Core.Path.{◌≡◌}
use lib.ListN.{length}
use Rattle.automaton.specs.Stored.{decode}
use Rattle.emptiness.proofs.Tabling.{Loops}
use Rattle.emptiness.proofs.building.Builder.+build.Given as goal

abbrev pub decreases-build : goal.decreases-build
decreases-build l = l.depth

abbrev pub invariant-loop-k : goal.invariant-loop-k
invariant-loop-k l = (length l.rows ≡ length l.initial.rows) × Loops (decode l.set) l.marks l.limit l.depth l.q.0 l.i l.initial.rows l.initial.self.slots l.initial.self.memo l.initial.self.count l.k l.rows l.self.slots l.self.memo l.self.count
