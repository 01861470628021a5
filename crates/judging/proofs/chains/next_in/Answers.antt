-- `judging::chains::next_in` meets its contract. Assumes nothing.
use Rattle.judging.specs.Chains.{class_in}
use Rattle.judging.proofs.States.{next_scan, next_link}
use Rattle.judging.proofs.chains.next_in.Goals as goal

pub returns-then-high-low : goal.returns-then-high-low
returns-then-high-low c = next_scan (class_in c.args.work.now) c.args.c c.args.j c.args.low c.args.high c.scan.result c.scan.ensures

pub returns : goal.returns
returns c = next_link (class_in c.args.work.now) c.args.c c.args.j c.args.low c.args.high c.args.chains.now.links c.from.result (c.requires.chained.0 c.if-high-low.false) c.requires.bounds.0 c.requires.bounds.1 c.requires.chained.1 c.from.ensures
