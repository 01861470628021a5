use Rattle.document.proofs.Marking.{markings}
use Rattle.runs.specs.Passes.{Counted}
use Rattle.runs.specs.Steps.{decode_steps}
use Rattle.runs.proofs.Marks.{steps_marked}
use Rattle.runs.proofs.Verdict.{counted}
use Rattle.runs.proofs.tests.CountedRun.all_used.Goals as goal
use native.Mathlib.Omega.{arith}

pub loop-j-init : goal.loop-j-init
loop-j-init c = search markings

pub loop-j-preserved : goal.loop-j-preserved
loop-j-preserved c = search markings

pub overflow_sub-self : goal.overflow_sub-self
overflow_sub-self c = let h = counted c.args.self.now.run.now c.args.self.now.n c.args.self.now.counted c.args.self.now.steps in omega (arith, h.some)

pub returns : goal.returns
returns c =
    let h : Counted (decode_steps c.args.self.now.run.now) c.args.self.now.n = counted c.args.self.now.run.now c.args.self.now.n c.args.self.now.counted c.args.self.now.steps in
    search (steps_marked, markings)
