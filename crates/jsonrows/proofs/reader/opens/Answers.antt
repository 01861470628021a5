-- The bytes of the definition, or a digit. Assumes nothing.
use borrow.Author.Rules.{rules}
use Rattle.jsonrows.specs.Grammar.{opens?}
use Rattle.jsonrows.proofs.reader.opens.Goals as goal

pub returns : goal.returns
unfolding opens?
returns c = search rules
