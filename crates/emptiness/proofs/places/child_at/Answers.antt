-- `emptiness::places::child_at` meets its contract. Assumes nothing.
use borrow.Author.Rules.{rules}
use Rattle.emptiness.proofs.Links.{child_at_lem}
use Rattle.emptiness.proofs.places.child_at.Goals as goal

pub returns : goal.returns
returns c = search (child_at_lem, rules)
