-- At the loop's head the first n bytes are a name's, and stand inside. Assumes nothing.
use Prim.Native.Nat.{◌+◌, ◌≤◌, max}
use lib.ListN.{length}
use Rattle.names.specs.Names.{name_byte?}
use Rattle.term.specs.Scan.{byte_at}
use Rattle.base.proofs.Leading.{Led}
use Rattle.term.proofs.scan.name_bytes.Given as goal

abbrev pub invariant-loop-n : goal.invariant-loop-n
invariant-loop-n l = Led (λ k. name_byte? (byte_at l.source.text.now (l.at + k))) 17 l.n × (l.at + l.n ≤ max l.at (length l.source.text.now))
