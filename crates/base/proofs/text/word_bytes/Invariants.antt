-- At the loop's head the first n bytes of the word stand there. Assumes nothing.
use Prim.Native.Nat.{◌+◌}
use lib.Dec.{eqb}
use lib.ListN.{length, get_or}
use Rattle.base.specs.Text.{byte_at}
use Rattle.base.proofs.Leading.{Led}
use Rattle.base.proofs.text.word_bytes.Given as goal

abbrev pub invariant-loop-n : goal.invariant-loop-n
invariant-loop-n l = Led (λ k. eqb (byte_at l.text (l.at + k)) (get_or l.word k 0)) (length l.word) l.n
