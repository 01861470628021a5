-- `runs::steps::place` meets its contract. Assumes nothing.
use borrow.Author.Rules.{rules}
use Rattle.runs.proofs.Reading.{place_cell, place_past}
use Rattle.runs.proofs.steps.place.Goals as goal

pub returns-then-k-lt-MAX_CHILDREN : goal.returns-then-k-lt-MAX_CHILDREN
returns-then-k-lt-MAX_CHILDREN c = search (place_cell, rules)

pub returns : goal.returns
returns c = search (place_past, rules)
