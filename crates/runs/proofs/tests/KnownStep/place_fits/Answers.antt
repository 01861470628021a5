-- `runs::tests::KnownStep::place_fits` meets its contract. Assumes nothing.
use Rattle.runs.specs.Passes.{Known}
use Rattle.runs.proofs.Fit.{fitting}
use Rattle.runs.proofs.tests.KnownStep.place_fits.Goals as goal

pub returns-then-child : goal.returns-then-child
returns-then-child c =
    let h : Known c.args.self.now.of.set.now c.args.self.now.of.rows.now c.args.self.now.of.run.now c.args.self.now.i.0 = record { sound = c.args.self.now.of.sound; known = c.args.self.now.known } in
    search fitting

pub returns-then-i-x : goal.returns-then-i-x
returns-then-i-x c =
    let h : Known c.args.self.now.of.set.now c.args.self.now.of.rows.now c.args.self.now.of.run.now c.args.self.now.i.0 = record { sound = c.args.self.now.of.sound; known = c.args.self.now.known } in
    search fitting

pub returns : goal.returns
returns c =
    let h : Known c.args.self.now.of.set.now c.args.self.now.of.rows.now c.args.self.now.of.run.now c.args.self.now.i.0 = record { sound = c.args.self.now.of.sound; known = c.args.self.now.known } in
    search fitting
