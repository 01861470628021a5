-- Either class. Assumes nothing.
use Rattle.names.specs.Names.{name_byte?}
use Rattle.names.proofs.lines.in_name.Goals as goal

pub returns : goal.returns
unfolding name_byte?
returns c = c.is_letter_or_digit.ensures.compared c.requires.lent
