-- Each byte is asked. Assumes nothing.
use Rattle.std.proofs.Common.{rules, tests}
use Rattle.names.specs.Names.{name_byte?}
use Rattle.names.proofs.Ranges.{all_in_slice}
use Rattle.names.proofs.lines.all_in_name.Goals as goal

pub returns : goal.returns
returns c = all_in_slice name_byte? _ _ _ c.iter.ensures.rest c.all.ensures.ran (λ x b q k. search (rules, tests))
