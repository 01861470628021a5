-- `document::check` meets its contract: the set is tried first, then the table. Assumes nothing.
use Rattle.document.proofs.Verdicts.{answers}
use Rattle.document.proofs.check.Goals as goal

pub returns-in_err-check : goal.returns-in_err-check
returns-in_err-check c = search answers

pub table-requires : goal.table-requires
table-requires c = search answers

pub returns : goal.returns
returns c = search answers
