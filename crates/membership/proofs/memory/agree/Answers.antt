-- `membership::memory::agree` meets its contract: every place is asked. Assumes nothing.
use Rattle.std.proofs.Common.{rules}
use borrow.Author.Tests.{tests}
use Rattle.model.proofs.Ranges.{all_in_range}
use Rattle.membership.proofs.Places.{agree_at, agree_places}
use Rattle.membership.proofs.memory.agree.Goals as goal

pub returns : goal.returns
returns c = rw agree_places (all_in_range (agree_at c.args.a.now c.args.b.now) c.args.tags _ _ _ (search rules) c.all.ensures.ran (λ x b q k. search (rules, tests)))
