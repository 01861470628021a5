-- `runs::tests::KnownStep::fits` meets its contract. Assumes nothing.
use Rattle.runs.specs.Passes.{Known}
use Rattle.runs.proofs.Fit.{fitting}
use Rattle.runs.proofs.tests.KnownStep.fits.Goals as goal

pub returns-then-rule_symbol-symbol : goal.returns-then-rule_symbol-symbol
returns-then-rule_symbol-symbol c =
    let h : Known c.args.self.now.of.set.now c.args.self.now.of.rows.now c.args.self.now.of.run.now c.args.self.now.i.0 = record { sound = c.args.self.now.of.sound; known = c.args.self.now.known } in
    search fitting

pub returns : goal.returns
returns c =
    let h : Known c.args.self.now.of.set.now c.args.self.now.of.rows.now c.args.self.now.of.run.now c.args.self.now.i.0 = record { sound = c.args.self.now.of.sound; known = c.args.self.now.known } in
    search fitting
