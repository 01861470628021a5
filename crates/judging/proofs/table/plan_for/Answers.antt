-- `judging::table::plan_for` meets its contract. Assumes nothing.
use mathlib.Core.Path.{refl}
use Rattle.membership.proofs.Own.{bounds_whole}
use Rattle.judging.proofs.Own.{planned_by}
use Rattle.judging.proofs.table.plan_for.Goals as goal

pub returns : goal.returns
returns c = planned_by c.args.rows.now c.args.starts.now c.args.i.0 c.args.tags c.args.arity c.args.base c.args.room _ refl refl refl refl (bounds_whole c.args.rows.now c.args.starts.now c.args.i.0 c.args.arity 0 c.bounds-low.result c.requires c.bounds-low.ensures) (bounds_whole c.args.rows.now c.args.starts.now c.args.i.0 c.args.arity 1 c.bounds-high.result c.requires c.bounds-high.ensures)
