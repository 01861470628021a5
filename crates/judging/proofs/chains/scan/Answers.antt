-- `judging::chains::scan` meets its contract. Assumes nothing.
use mathlib.Core.Path.{◌≡◌}
use borrow.Author.Rules.{rules}
use borrow.Author.Tests.{tests}
use Rattle.std.proofs.lemmas.Iterator.{first_from_Range}
use Rattle.judging.specs.Chains.{class_in}
use Rattle.judging.proofs.States.{scanned}
use Rattle.judging.proofs.chains.scan.Goals as goal

pub returns : goal.returns
returns c =
    let f = class_in c.args.work.now in
    rw c.unwrap_or.ensures (scanned f c.args.c c.args.low c.args.high c.find.result c.requires.0 (first_from_Range (record { start = c.args.low; end = c.args.high }) _ _ _ (λ j. f j ≡ c.args.c) (λ j. f j ≡ c.args.c → ⊥) c.find.ensures.ran (λ x q k. search (rules, tests)) (λ x q k. search (rules, tests))))
