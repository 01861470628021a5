-- One test of the definition after the other. Assumes nothing.
use native.Mathlib.Omega.{arith}
use Rattle.names.proofs.Naming.{long_no_name, naming}
use Rattle.names.proofs.lines.is_name.Goals as goal

pub returns-then-s-eq0 : goal.returns-then-s-eq0
returns-then-s-eq0 c = search naming

pub returns-then-s-gt-MAX_NAME : goal.returns-then-s-gt-MAX_NAME
returns-then-s-gt-MAX_NAME c = long_no_name c.args.s.now (omega arith)

pub returns-then-is_letter : goal.returns-then-is_letter
returns-then-is_letter c = let e = c.is_letter.ensures.compared c.requires.lent in search naming

pub returns : goal.returns
returns c = let e = c.is_letter.ensures.compared c.requires.lent in search naming
