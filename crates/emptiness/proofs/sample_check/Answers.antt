-- `emptiness::sample_check` meets its contract: the space is tried before the tags. Assumes nothing.
use Rattle.emptiness.proofs.Verdicts.{sampling}
use Rattle.emptiness.proofs.sample_check.Goals as goal

pub returns-then-space-from : goal.returns-then-space-from
returns-then-space-from c = search sampling

pub returns-then-not-all_apart : goal.returns-then-not-all_apart
returns-then-not-all_apart c = search sampling

pub returns : goal.returns
returns c = search sampling
