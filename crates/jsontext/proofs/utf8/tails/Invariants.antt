-- So far each byte is one of these, inside the text; the others come to the whole. Assumes nothing.
use mathlib.Core.Path.{◌≡◌}
use Prim.Native.Nat.{◌+◌, ◌-◌, ◌<◌, ◌≤◌}
use lib.ListN.{length, replicate}
use Rattle.jsontext.specs.Utf8.{tail, pass_at}
use Rattle.jsontext.proofs.utf8.tails.Given as goal

abbrev pub invariant-loop-k : goal.invariant-loop-k
invariant-loop-k l = (0 < l.k → l.at + l.k ≤ length l.text) × (pass_at (replicate (l.count - l.k) tail) l.text (l.at + l.k) ≡ pass_at (replicate l.count tail) l.text l.at)
