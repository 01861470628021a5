-- `document::marks::all_marked` meets its contract: every number is asked. Assumes nothing.
use mathlib.Core.Bool.{false}
use mathlib.Core.Path.{refl}
use borrow.Author.Tests.{tests}
use lib.ListN.{get_or}
use Rattle.std.proofs.Common.{rules}
use Rattle.model.proofs.Ranges.{all_in_range}
use Rattle.document.proofs.marks.all_marked.Goals as goal

pub returns : goal.returns
returns c = all_in_range (λ i. get_or c.args.marks.now i false) c.args.n _ _ _ refl c.all.ensures.ran (λ x b q k. search (rules, tests))
