-- `emptiness::building::place_of` meets its contract. Assumes nothing.
use borrow.Author.Rules.{rules}
use Rattle.emptiness.proofs.Puts.{place_memo}
use Rattle.emptiness.proofs.building.place_of.Goals as goal

pub returns : goal.returns
returns c = search (place_memo, rules)
