-- `judging::search::finish` meets its contract. Assumes nothing.
use Rattle.judging.proofs.Storing.{joined_short, finishing}
use Rattle.judging.proofs.search.finish.Goals as goal

pub add-requires : goal.add-requires
add-requires c = (c.requires.0, search (joined_short, c.requires.1, c.requires.2, c.join-all.ensures))

pub returns-then-agree : goal.returns-then-agree
returns-then-agree c = search finishing

pub returns : goal.returns
returns c = search finishing
