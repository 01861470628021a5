-- `judging::chains::first_in` meets its contract. Assumes nothing.
use native.Mathlib.Omega.{arith}
use Rattle.judging.specs.Chains.{class_in}
use Rattle.judging.proofs.States.{head_of}
use Rattle.judging.proofs.chains.first_in.Goals as goal

pub head_from-requires : goal.head_from-requires
head_from-requires c = record { bounds = (omega (arith, c.requires.bounds), c.requires.bounds.2, c.requires.bounds.4); head_of = head_of (class_in c.args.work.now) c.args.p c.args.low c.args.high c.args.chains.now.heads (c.requires.opened c.if-high-low.false) c.args.c }
