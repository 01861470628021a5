-- `runs::tests::CountedRun::ends` meets its contract. Assumes nothing.
use native.Mathlib.Omega.{arith}
use Rattle.runs.specs.Passes.{Ready}
use Rattle.runs.proofs.Verdict.{ready, readies}
use Rattle.runs.proofs.tests.CountedRun.ends.Goals as goal

pub overflow_sub-last : goal.overflow_sub-last
overflow_sub-last c =
    let h : Ready c.args.self.now.set.now c.args.self.now.rows.now c.args.self.now.run.now c.args.self.now.n = ready c.args.self.now.set.now c.args.self.now.rows.now c.args.self.now.run.now c.args.self.now.n c.args.self.now.sound c.args.self.now.counted c.args.self.now.steps c.requires in
    omega (arith, h.counted.some)

pub overflow_sub-result : goal.overflow_sub-result
overflow_sub-result c =
    let h : Ready c.args.self.now.set.now c.args.self.now.rows.now c.args.self.now.run.now c.args.self.now.n = ready c.args.self.now.set.now c.args.self.now.rows.now c.args.self.now.run.now c.args.self.now.n c.args.self.now.sound c.args.self.now.counted c.args.self.now.steps c.requires in
    search readies

pub returns : goal.returns
returns c =
    let h : Ready c.args.self.now.set.now c.args.self.now.rows.now c.args.self.now.run.now c.args.self.now.n = ready c.args.self.now.set.now c.args.self.now.rows.now c.args.self.now.run.now c.args.self.now.n c.args.self.now.sound c.args.self.now.counted c.args.self.now.steps c.requires in
    search readies
