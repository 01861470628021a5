-- The cell's part, its ends kept inside the table. Assumes nothing.
use mathlib.Core.Path.{ap, ◌∙◌}
use Prim.Native.Nat.{◌+◌, ◌*◌}
use borrow.Author.Rules.{rules}
use lib.ListN.{take, drop}
use Rattle.names.specs.Table.{name_in, cell_bytes}
use Rattle.names.proofs.Cells.{clipped}
use Rattle.names.proofs.table.shown.Goals as goal

pub returns : goal.returns
unfolding name_in
returns c =
    clipped _ _ c.args.t.now _ _ c.min-a.ensures c.min-e.ensures
    ∙ ap (λ n. take n (drop (c.from-at.result * cell_bytes + 1) c.args.t.now)) (search rules) ∙ ap (name_in c.args.t.now) c.from-at.ensures
