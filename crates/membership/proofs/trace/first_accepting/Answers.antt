-- `membership::trace::first_accepting` meets its contract. Assumes nothing.
use mathlib.Core.Path.{◌≡◌}
use mathlib.Core.Bool.{true, false}
use borrow.Author.Rules.{rules}
use borrow.Author.Tests.{tests}
use Rattle.std.proofs.lemmas.Iterator.{first_from_Range}
use Rattle.automaton.specs.Stored.{decode}
use Rattle.membership.specs.Trace.{accepting_in}
use Rattle.membership.proofs.Marks.{first_of}
use Rattle.membership.proofs.trace.first_accepting.Goals as goal

pub returns : goal.returns
returns c =
    let f = accepting_in (decode c.args.set.now) c.args.last.0 c.args.work.now in
    first_of f c.args.n c.find.result (first_from_Range (record { start = 0; end = c.args.n }) _ _ _ (λ j. f j ≡ true) (λ j. f j ≡ false) c.find.ensures.ran (λ x q k. search (rules, tests)) (λ x q k. search (rules, tests)))
