-- `runs::check` meets its contract: the set and the table are tried first, then the run. Assumes nothing.
use Rattle.document.proofs.Verdicts.{answers}
use Rattle.runs.proofs.check.Goals as goal

pub returns-in_err-check : goal.returns-in_err-check
returns-in_err-check c = search answers

pub tried-requires : goal.tried-requires
tried-requires c = search answers

pub returns : goal.returns
returns c = search answers
