-- `boolean::write::put_result` meets its contract: each part is put where the one before it ends. Assumes nothing.
use mathlib.Core.Path.{sym}
use lib.Seq.{length-take-le}
use Rattle.automaton.specs.Stored.{decode}
use Rattle.boolean.proofs.Writing.{rules_room, rules_laid, result_front_room, states_room, result_rules_room, result_laid}
use Rattle.boolean.proofs.write.put_result.Goals as goal

pub put_front-at-requires : goal.put_front-at-requires
put_front-at-requires g c = result_front_room _ _ _ _ (g.met.C.Combination.symbols (decode c.args.sets.first.now) (decode c.args.sets.second.now)) _ c.args.out.now c.requires

pub put_states-states-requires : goal.put_states-states-requires
put_states-states-requires g c = states_room _ _ _ _ (g.met.C.Combination.symbols (decode c.args.sets.first.now) (decode c.args.sets.second.now)) _ _ c.requires _ _ c.put_front-at.ensures

pub slice_bounds-put_rules-end : goal.slice_bounds-put_rules-end
slice_bounds-put_rules-end g c = sym (length-take-le _ _ c.keys-n.ensures.few)

pub put_rules-requires : goal.put_rules-requires
put_rules-requires g c =
    let same = g.met.C.Combination.symbols (decode c.args.sets.first.now) (decode c.args.sets.second.now) in
    rules_room _ _ (g.met.C.Combination.sound _ _ c.requires.0) _ same _ _ c.keys-n.ensures _ _ (result_rules_room _ _ _ _ same _ _ c.requires _ _ c.put_front-at.ensures _ _ c.put_states-states.ensures)

pub returns : goal.returns
returns g c =
    let same = g.met.C.Combination.symbols (decode c.args.sets.first.now) (decode c.args.sets.second.now) in
    result_laid _ _ _ _ same _ _ c.requires _ _ c.put_front-at.ensures _ _ c.put_states-states.ensures _ _
    (rules_laid _ _ (g.met.C.Combination.sound _ _ c.requires.0) _ same _ _ c.keys-n.ensures _ _ _ _ c.put_rules.ensures)
