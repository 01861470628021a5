use Rattle.std.proofs.Common.{arith}
use Rattle.stream.proofs.Bytes.{joined}
use Rattle.stream.proofs.receive.Goals as goal

pub loop-done-preserved : goal.loop-done-preserved
loop-done-preserved g c =
    let ahead = rw c.in-Some.is at c.in_ok-n.ensures.ahead in
    let bytes = rw c.in-Some.is at c.in_ok-n.ensures.bytes in
    let before = c.loop-done.invariant in (
      omega (arith, c.hear.auto.space, before.0),
      omega (arith, c.hear.auto.space, ahead),
      joined _ _ _ c.loop-done.done c.in-Some.n c.loop-done.space c.hear.new.space (omega (arith, ahead)) c.hear.ensures.before before.2 bytes,
    )
