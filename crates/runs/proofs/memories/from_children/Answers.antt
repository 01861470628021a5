use mathlib.Core.Path.{sym, ◌∙◌}
use Rattle.runs.proofs.Joining.{joining_more, joining}
use Rattle.runs.proofs.memories.from_children.Goals as goal

pub returns-then-c : goal.returns-then-c
returns-then-c c = search joining

pub returns-in_err-j : goal.returns-in_err-j
returns-in_err-j c = search joining

pub loop-k-preserved : goal.loop-k-preserved
loop-k-preserved c = joining_more _ _ _ c.loop-k.j c.loop-k.k c.loop-k.invariant _ c.loop-k-test.true c.place-c.ensures _ c.if-c.false c.place_of-y.ensures c.in_ok-j.j (sym c.in_ok-j.was ∙ c.join.ensures)
