use mathlib.Core.Path.{ap, subst}
use Prim.Native.Nat.{◌<◌}
use native.Mathlib.Omega.{arith}
use lib.ListN.{length, length-map}
use Rattle.model.specs.Boolean.{pair_rules}
use Rattle.model.specs.Written.{no_rule, rule_at}
use Rattle.model.proofs.SoundProduct.{product_rules}
use Rattle.automaton.specs.Stored.{decode}
use Rattle.boolean.specs.Key.{packed}
use Rattle.automaton.specs.Laid.{Laid}
use Rattle.boolean.specs.Ready.{row}
use Rattle.boolean.proofs.Concat.{map_concat_map}
use Rattle.automaton.proofs.Laying.{parts_none, parts_more, parts_room, parts_all, laid_length}
use Rattle.boolean.proofs.pairs.pair_keys.Goals as goal

pub loop-i-init : goal.loop-i-init
loop-i-init c =
    let A = decode c.args.sets.first.now in
    let B = decode c.args.sets.second.now in
    let e = ap length (map_concat_map packed (row A.tags B) A.rules) in
    let d = length-map (pair_rules (length B.states) A.tags A.rules B.rules) packed in
    let f = product_rules A B in
    (c.header-n.ensures.rules, parts_none _ no_rule _ _ _ (omega arith))

pub row_keys-at-requires : goal.row_keys-at-requires
row_keys-at-requires c =
    let l : c.loop-i.i < length (decode c.args.sets.first.now).rules = omega (arith, c.loop-i.invariant.0) in
    let r = parts_room _ no_rule _ _ _ _ _ _ c.loop-i.invariant.1 l in
    let e = length-map (row (decode c.args.sets.first.now).tags (decode c.args.sets.second.now) (rule_at (decode c.args.sets.first.now) c.loop-i.i)) packed in
    (l, omega arith)

pub loop-i-preserved : goal.loop-i-preserved
loop-i-preserved c = (c.loop-i.invariant.0, parts_more _ no_rule _ _ _ _ _ _ c.loop-i.invariant.1 _ _ (omega (arith, c.loop-i.invariant.0)) c.row_keys-at.ensures)

pub shape_of-keys : goal.shape_of-keys
shape_of-keys c = laid_length c.loop-i.invariant.1.laid

pub returns : goal.returns
returns c = subst (Laid c.args.keys.now c.loop-i.keys 0 c.loop-i.at) (map_concat_map packed (row (decode c.args.sets.first.now).tags (decode c.args.sets.second.now)) (decode c.args.sets.first.now).rules) (parts_all _ no_rule _ _ _ _ _ _ c.loop-i.invariant.1 (omega (arith, c.loop-i.invariant.0)))
