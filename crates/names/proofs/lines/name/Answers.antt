-- A line with bytes is taken from the first list, else the line of the second. Assumes nothing.
use Rattle.names.proofs.Scan.{scanning}
use Rattle.names.proofs.lines.name.Goals as goal

pub returns-then-own-gt0 : goal.returns-then-own-gt0
returns-then-own-gt0 c = search scanning

pub returns : goal.returns
returns c = search scanning
