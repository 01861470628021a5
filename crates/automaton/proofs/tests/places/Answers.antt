-- `automaton::tests::places` meets its contract: every place is asked. Assumes nothing.
use Rattle.std.proofs.Common.{rules}
use borrow.Author.Tests.{tests}
use Rattle.model.proofs.Ranges.{all_in_range}
use mathlib.Core.Path.{refl}
use Rattle.model.specs.Limits.{max_children}
use Rattle.automaton.specs.Check.{place_ok}
use Rattle.automaton.proofs.tests.places.Goals as goal

pub returns : goal.returns
returns c = all_in_range (place_ok c.args.f.set.now c.args.i) (max_children) _ _ _ refl c.all.ensures.ran (λ x b q k. search (rules, tests))
