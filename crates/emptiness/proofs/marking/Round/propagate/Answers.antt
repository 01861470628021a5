use mathlib.Core.Path.{refl}
use Rattle.emptiness.proofs.Links.{follows_less, rule_in_lem, following}
use Rattle.emptiness.proofs.marking.Round.propagate.Goals as goal

pub loop-at-init : goal.loop-at-init
loop-at-init c = search following

pub try_rule-requires : goal.try_rule-requires
try_rule-requires c = rule_in_lem _ _ _ _ _ _ _ _ c.requires _ _ _ _ _ c.loop-at.invariant c.loop-at-test.true refl _ c.number_at-at.ensures c.if-q-ge-MAX_STATES.false _ refl

pub loop-at-smaller : goal.loop-at-smaller
loop-at-smaller c = follows_less _ _ _ _ _ _ _ _ c.requires _ _ _ _ _ c.loop-at.invariant c.loop-at-test.true refl _ c.number_at-at.ensures c.if-q-ge-MAX_STATES.false _ c.number_at-at-in-loop-at.ensures

pub loop-at-preserved : goal.loop-at-preserved
loop-at-preserved c = search following
