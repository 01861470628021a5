-- The length first, then the bytes behind it. Assumes nothing.
use mathlib.Core.Path.{sym, ap, ◌∙◌}
use Prim.Native.Nat.{◌*◌}
use native.Mathlib.Omega.{arith}
use lib.ListN.{length-set}
use lib.Seq.{length-take-le}
use Rattle.model.specs.Space.{put_at}
use Rattle.names.specs.Table.{cell_bytes, cell_of}
use Rattle.names.proofs.Cells.{cell_put, cell_too_long}
use Rattle.names.proofs.table.put_cell.Goals as goal

pub slice_bounds-put-end : goal.slice_bounds-put-end
slice_bounds-put-end c = sym (length-take-le _ c.args.bytes.now (omega (arith, c.min-n.ensures)))

pub shape_of-t : goal.shape_of-t
shape_of-t c = c.put.auto.out ∙ simp length-set

pub returns-then-at-n : goal.returns-then-at-n
returns-then-at-n c =
    cell_put c.args.t.now _ _ c.args.bytes.now c.min-n.ensures _ c.if-at-n.true c.put.ensures
    ∙ ap (λ k. put_at c.args.t.now (k * cell_bytes) (cell_of c.args.bytes.now)) c.from-at.ensures

pub returns-else-at-n : goal.returns-else-at-n
returns-else-at-n c =
    cell_too_long c.args.t.now _ _ c.args.bytes.now c.min-n.ensures c.if-at-n.false
    ∙ ap (λ k. put_at c.args.t.now (k * cell_bytes) (cell_of c.args.bytes.now)) c.from-at.ensures
