-- The slots tried held lines that differ. Assumes nothing.
use mathlib.Core.Bool.{Bool}
use mathlib.Core.List.{List}
use Prim.Native.Nat.{ℕ}
use Rattle.model.specs.Lists.{eq_list}
use Rattle.document.proofs.Searching.{Searched}
use Rattle.jsonrows.specs.KeyTable.{key_at}
use Rattle.jsonrows.proofs.keys.line_slot.Given as goal

-- line k is these bytes
abbrev pub same? : List ℕ → List ℕ → ℕ → Bool
same? line list k = eq_list line (key_at list k)

abbrev pub invariant-loop-d : goal.invariant-loop-d
invariant-loop-d l = Searched l.key_slots (same? l.line l.list) l.slot l.d
