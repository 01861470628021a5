-- 61 of either list, then 62, then nothing. Assumes nothing.
use Rattle.std.specs.Prelude.{Ok, Err}
use Rattle.base.specs.declared.refusal.Refusal.TheVariants.{ListLine, NamesAlike}
use Rattle.names.proofs.Checked.{answers, answered}
use Rattle.names.proofs.check.Goals as goal
use Rattle.names.proofs.check.Goals.{then-not-list_fits-via-then-not-list_fits, then-not-list_fits-via-else-not-list_fits+then-not-list_fits-2}

pub returns-then-not-list_fits : goal.returns-then-not-list_fits
returns-then-not-list_fits c = elim c.then-not-list_fits.branch [
  | then-not-list_fits-via-then-not-list_fits w ↦ answered (Err ListLine) _ (search answers)
  | then-not-list_fits-via-else-not-list_fits+then-not-list_fits-2 w ↦ answered (Err ListLine) _ (search answers)
]

pub returns-then-not-are_distinct : goal.returns-then-not-are_distinct
returns-then-not-are_distinct c = answered (Err NamesAlike) _ (search answers)

pub returns : goal.returns
returns c = answered (Ok tt) _ (search answers)
