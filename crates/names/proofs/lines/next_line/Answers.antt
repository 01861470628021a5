-- The next line starts behind the end of this one. Assumes nothing.
use borrow.Author.Rules.{rules}
use Rattle.names.proofs.Scan.{starts_next}
use Rattle.names.proofs.lines.next_line.Goals as goal

pub returns : goal.returns
returns c = record { inside = search rules; next = λ i v. starts_next _ i _ v _ _ (c.line_end-e.ensures v.inside) c.after.ensures }
