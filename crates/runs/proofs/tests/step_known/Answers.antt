-- `runs::tests::step_known` meets its contract. Assumes nothing.
use borrow.Author.Rules.{rules}
use Rattle.runs.proofs.Fit.{known_is}
use Rattle.runs.proofs.tests.step_known.Goals as goal

pub returns : goal.returns
returns c = search (known_is, rules)
