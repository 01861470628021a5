-- Every symbol is asked. Assumes nothing.
use Rattle.std.proofs.Common.{rules, tests, refl}
use Rattle.model.proofs.Ranges.{all_in_range}
use Rattle.names.specs.Table.{name_in}
use Rattle.names.specs.Check.{new?, distinct?}
use Rattle.names.proofs.all_new.Goals as goal

pub returns : goal.returns
unfolding distinct?
returns c = all_in_range (new? (name_in c.args.t.now)) c.args.n _ _ _ refl c.all.ensures.ran (λ x b q k. search (rules, tests))
