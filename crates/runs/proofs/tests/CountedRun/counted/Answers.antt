-- `runs::tests::CountedRun::counted` meets its contract. Assumes nothing.
use Rattle.runs.specs.Check.{counted?}
use Rattle.runs.proofs.tests.CountedRun.counted.Goals as goal

pub invariant_of-result-clause-counted : goal.invariant_of-result-clause-counted
unfolding counted?
invariant_of-result-clause-counted c = cc

pub returns-clause-told : goal.returns-clause-told
unfolding counted?
returns-clause-told c = cc
