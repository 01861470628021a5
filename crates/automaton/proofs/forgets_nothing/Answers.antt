-- `automaton::forgets_nothing` meets its contract: every rule is asked. Assumes nothing.
use Rattle.std.proofs.Common.{rules}
use borrow.Author.Tests.{tests}
use Rattle.model.proofs.Ranges.{all_in_range}
use mathlib.Core.Path.{◌∙◌}
use lib.Dec.{eqb}
use lib.ListN.{length}
use Rattle.model.specs.Written.{rule_at, no_rule}
use Rattle.model.proofs.Count.{all_below_lem}
use Rattle.automaton.specs.Stored.{decode}
use Rattle.automaton.proofs.forgets_nothing.Goals as goal

pub returns : goal.returns
returns c = all_in_range (λ k. eqb (rule_at (decode c.args.set.now) k).forget 0) (length (decode c.args.set.now).rules) _ _ _ c.rules.ensures c.all.ensures.ran (λ x b q k. search (rules, tests)) ∙ all_below_lem (λ r. eqb r.forget 0) no_rule (decode c.args.set.now).rules
