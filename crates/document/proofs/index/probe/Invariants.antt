-- `document::index::probe` meets its contract: the slots tried held rows that fail the test. Assumes nothing.
use mathlib.Core.Bool.{Bool}
use mathlib.Core.Path.{◌≡◌}
use Prim.Native.Nat.{ℕ}
use Rattle.document.specs.declared.rows.Row.{Row}
use Rattle.document.proofs.Searching.{Searched}
use Rattle.document.proofs.index.probe.Given as goal

abbrev pub invariant-loop-d : goal.invariant-loop-d
invariant-loop-d g l = (same? : ℕ → Bool) → ((i : Row) (b : Bool) → goal.F-post g l.same i b → b ≡ same? i.0) → Searched l.slots same? l.start l.d
