use native.Mathlib.Omega.{arith}
use Rattle.automaton.proofs.Known.{rule_bytes}
use Rattle.automaton.proofs.Laying.{parts_none, parts_put, parts_all, laid_length}
use Rattle.boolean.proofs.write.put_rules.Goals as goal

pub loop-x-init : goal.loop-x-init
loop-x-init c = parts_none _ 0 _ _ _ c.requires

pub loop-x-preserved : goal.loop-x-preserved
loop-x-preserved c = parts_put _ 0 _ _ _ _ _ _ c.loop-x.invariant _ _ _ (omega arith) (rule_bytes _ _ _ c.unpack.ensures) c.put_rule-end.ensures

pub shape_of-out : goal.shape_of-out
shape_of-out c = laid_length c.loop-x.invariant.laid

pub returns : goal.returns
returns c = parts_all _ 0 _ _ _ _ _ _ c.loop-x.invariant (omega arith)
