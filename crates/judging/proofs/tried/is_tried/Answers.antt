-- `judging::tried::is_tried` meets its contract. Assumes nothing.
use mathlib.Core.Path.{subst}
use Prim.Native.Nat.{◌<◌}
use Rattle.std.specs.Prelude.{IfSome}
use Rattle.judging.proofs.Slots.{stands}
use Rattle.judging.proofs.tried.is_tried.Goals as goal

pub returns : goal.returns
returns c =
    let inside = subst (λ o. IfSome o (λ s. s < 1024)) c.in-Some.is c.requires.in_bounds in
    stands c.args.tried.now c.in-Some.slot c.args.row.0 c.args.rule c.args.left c.stamp.result c.args.tags c.args.memory.now c.same.result inside c.requires.row_bound.3 c.if-tried-slot.false c.if-tried-slot-2.false c.stamp.ensures c.same.ensures
