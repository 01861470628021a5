use mathlib.Core.Path.{refl}
use mathlib.Core.List.{map}
use Prim.Native.Nat.{◌<◌}
use native.Mathlib.Omega.{arith}
use lib.ListN.{length, length-map}
use Rattle.model.specs.Boolean.{shift_rule}
use Rattle.automaton.specs.Stored.{decode}
use Rattle.automaton.proofs.Sound.{sound_decode}
use Rattle.boolean.specs.Key.{packed}
use Rattle.automaton.proofs.Laying.{laid_length}
use Rattle.boolean.proofs.Laying.{filling_none, filling_front, filling_all, laid_all}
use Rattle.boolean.proofs.Results.{shifted_key_at}
use Rattle.boolean.proofs.keys.shifted_keys.Goals as goal

pub loop-i-init : goal.loop-i-init
loop-i-init c =
    let e = length-map (map (shift_rule c.args.n c.args.t) (decode c.args.set.now).rules) packed in
    let d = length-map (decode c.args.set.now).rules (shift_rule c.args.n c.args.t) in
    (c.header-count.ensures.rules, filling_none _ _ _ (omega arith))

pub bounds-keys-from : goal.bounds-keys-from
bounds-keys-from c =
    let d = laid_length c.loop-i.invariant.1.laid in
    omega arith

pub loop-i-preserved : goal.loop-i-preserved
loop-i-preserved c =
    let l : c.loop-i.i < length (decode c.args.set.now).rules = omega (arith, c.loop-i.invariant.0) in
    let e = length-map (map (shift_rule c.args.n c.args.t) (decode c.args.set.now).rules) packed in
    let d = length-map (decode c.args.set.now).rules (shift_rule c.args.n c.args.t) in
    (c.loop-i.invariant.0, filling_front _ _ _ _ _ c.loop-i.invariant.1 refl _ _ c.from.ensures (omega arith) (shifted_key_at (decode c.args.set.now) (sound_decode c.args.set.now c.requires.0) _ l c.rule.result c.rule.ensures c.args.n c.args.t _ c.shifted_key.ensures))

pub shape_of-keys : goal.shape_of-keys
shape_of-keys c = laid_length c.loop-i.invariant.1.laid

pub returns : goal.returns
returns c =
    let e = length-map (map (shift_rule c.args.n c.args.t) (decode c.args.set.now).rules) packed in
    let d = length-map (decode c.args.set.now).rules (shift_rule c.args.n c.args.t) in
    laid_all (filling_all _ _ _ _ _ c.loop-i.invariant.1 (omega (arith, c.loop-i.invariant.0))) (omega (arith, c.loop-i.invariant.0))
