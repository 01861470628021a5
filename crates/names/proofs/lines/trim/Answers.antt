use Rattle.names.proofs.Trim.{trimming}
use Rattle.names.proofs.lines.trim.Goals as goal

pub loop-e-preserved : goal.loop-e-preserved
loop-e-preserved c = search trimming

pub returns-else-is_blank : goal.returns-else-is_blank
returns-else-is_blank c = search trimming

pub returns : goal.returns
returns c = search trimming
