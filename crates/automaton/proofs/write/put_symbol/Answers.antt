-- `automaton::write::put_symbol` meets its contract: a byte that fits is stored. Assumes nothing.
use Prim.Native.Nat.{◌+◌, ◌≤◌, ◌<◌}
use lib.ListN.{length}
use native.Mathlib.Omega.{arith}
use mathlib.Core.Path.{refl}
use lib.Seq.{sets-eq}
use Rattle.automaton.specs.Encode.{encode_symbol}
use Rattle.automaton.proofs.Put.{put_done, put_stays}
use Rattle.automaton.proofs.write.put_symbol.Goals as goal

pub returns-then-at-out : goal.returns-then-at-out
unfolding encode_symbol
returns-then-at-out c =
    let h : c.args.at + 1 ≤ length c.args.out.now = omega arith in
    put_done c.args.out.now c.args.at (encode_symbol c.args.arity) h 1 _ refl (sets-eq (encode_symbol c.args.arity) c.args.out.now c.args.at h)

pub returns : goal.returns
unfolding encode_symbol
returns c =
    let h : length c.args.out.now < c.args.at + 1 = omega arith in
    put_stays c.args.out.now c.args.at (encode_symbol c.args.arity) h
