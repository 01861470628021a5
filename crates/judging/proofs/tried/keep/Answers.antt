-- `judging::tried::keep` meets its contract. Assumes nothing.
use mathlib.Core.Path.{subst}
use Prim.Native.Nat.{◌<◌}
use native.Mathlib.Omega.{arith}
use Rattle.std.specs.Prelude.{IfSome}
use Rattle.judging.proofs.Slots.{kept_new}
use Rattle.judging.proofs.tried.keep.Goals as goal

pub returns-in-Some : goal.returns-in-Some
returns-in-Some c =
    let inside = subst (λ o. IfSome o (λ s. s < 1024)) c.in-Some.is c.requires.0 in
    kept_new c.args.tried.now c.args.memory.now c.in-Some.slot c.args.row.0 c.args.rule c.args.left c.stamp.result inside (omega arith) c.stamp.ensures
