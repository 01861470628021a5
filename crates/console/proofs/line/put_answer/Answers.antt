-- `console::line::put_answer` meets its contract: bytes at the front are the output. Assumes nothing.
use Rattle.console.proofs.Printing.{answer_put}
use Rattle.console.proofs.line.put_answer.Goals as goal

pub returns : goal.returns
returns c = answer_put _ _ _ _ c.requires c.put_bytes.ensures
