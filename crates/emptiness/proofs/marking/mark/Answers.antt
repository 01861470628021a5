use native.Mathlib.Omega.{arith}
use borrow.Author.Rules.{rules}
use Rattle.automaton.proofs.Sound.{sound_decode}
use Rattle.emptiness.proofs.Turns.{turn_start, turn_more, marks_live, marks_same, marks_end}
use Rattle.emptiness.proofs.marking.mark.Goals as goal

pub loop-n-init : goal.loop-n-init
loop-n-init c = (search rules, search (turn_start, rules))

pub returns-in-Some : goal.returns-in-Some
returns-in-Some c = marks_live _ (sound_decode _ c.args.set.sound) _ _ _ _ c.loop-n.invariant.1 _ c.lowest_final.ensures _ c.in-Some.is _ (omega arith) c.args.set.all_states

pub returns-then-round-eq0 : goal.returns-then-round-eq0
returns-then-round-eq0 c = search (sound_decode, marks_same)

pub loop-n-preserved : goal.loop-n-preserved
loop-n-preserved c = (search rules, search (sound_decode, turn_more))

pub returns : goal.returns
returns c = search (sound_decode, marks_end)
