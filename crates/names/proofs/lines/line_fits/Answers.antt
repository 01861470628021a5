-- Empty, or a name. Assumes nothing.
use Rattle.names.proofs.Naming.{naming}
use Rattle.names.proofs.lines.line_fits.Goals as goal

pub returns-then-s-eq0 : goal.returns-then-s-eq0
returns-then-s-eq0 c = search naming

pub returns : goal.returns
returns c = search naming
