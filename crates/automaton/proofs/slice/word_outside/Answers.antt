-- `automaton::slice::word_outside` meets its contract: past the end a byte is 0. Assumes nothing.
use Rattle.std.proofs.Common.{rules}
use native.Mathlib.Omega.{arith}
use Prim.Native.Nat.{◌+◌, ◌≤◌}
use lib.ListN.{length}
use Rattle.automaton.proofs.Words.{number_last, number_past}
use Rattle.automaton.proofs.slice.word_outside.Goals as goal

pub returns-then-at-s : goal.returns-then-at-s
returns-then-at-s c = number_last c.args.s.now (c.args.at + c.args.k) _ (omega arith) (search rules) (search rules)

pub returns-else-at-s : goal.returns-else-at-s
returns-else-at-s c =
    let l : length c.args.s.now ≤ c.args.at = c.if-at-s.false in
    number_past c.args.s.now (c.args.at + c.args.k) (omega arith)
