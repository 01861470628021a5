-- At the loop's head k bytes were tried. Assumes nothing.
use mathlib.Core.Path.{◌≡◌}
use mathlib.Core.Bool.{true}
use Prim.Native.Nat.{◌+◌, ◌≤◌}
use Rattle.jsontext.specs.StringAnswers.{Plains}
use Rattle.jsontext.proofs.plain.is_plain_block.Given as goal

abbrev pub invariant-loop-k : goal.invariant-loop-k
invariant-loop-k l = (l.k ≤ 64) × (l.all ≡ true → Plains l.text l.at (l.at + l.k))
