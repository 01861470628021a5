-- Nothing is found where every earlier name differs. Assumes nothing.
use Rattle.std.proofs.Common.{ap, ◌∙◌}
use Rattle.names.specs.Names.{find_in}
use Rattle.names.specs.Table.{name_in}
use Rattle.names.specs.Check.{new?}
use Rattle.names.proofs.First.{none_new}
use Rattle.names.proofs.is_new.Goals as goal

pub returns : goal.returns
unfolding new? find_in
returns c = none_new _ _ c.find.result _ (c.find.ensures ∙ ap (find_in c.args.i (name_in c.args.t.now)) c.shown.ensures) c.is_none.ensures
