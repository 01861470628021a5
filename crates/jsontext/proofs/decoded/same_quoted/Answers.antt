-- At the loop's head the same bytes were read of both strings. Assumes nothing.
use Rattle.jsontext.proofs.Comparing.{both_alike, both_end, both_second_end, both_broken, both_second_broken, both_differ, both_agree}
use Rattle.jsontext.proofs.decoded.same_quoted.Goals as goal

pub returns-then-byte_at-eq34 : goal.returns-then-byte_at-eq34
returns-then-byte_at-eq34 c l = both_end _ _ _ _ _ (both_alike _ _ _ _ _ (c.loop-a.invariant.2 l) _ c.alike-n.ensures) _ _ c.byte_at.ensures c.if-byte_at-eq34.true c.byte_at-then-byte_at-eq34.ensures

pub returns-then-byte_at-eq34-2 : goal.returns-then-byte_at-eq34-2
returns-then-byte_at-eq34-2 c l = both_second_end _ _ _ _ _ (both_alike _ _ _ _ _ (c.loop-a.invariant.2 l) _ c.alike-n.ensures) _ _ c.byte_at.ensures c.if-byte_at-eq34.false c.byte_at-in-loop-a.ensures c.if-byte_at-eq34-2.true

pub returns-in_default : goal.returns-in_default
returns-in_default c l = both_broken _ _ _ _ _ (both_alike _ _ _ _ _ (c.loop-a.invariant.2 l) _ c.alike-n.ensures) _ (c.in_default.ensures.char_says l)

pub returns-in_default-char_at : goal.returns-in_default-char_at
returns-in_default-char_at c l = both_second_broken _ _ _ _ _ (both_alike _ _ _ _ _ (c.loop-a.invariant.2 l) _ c.alike-n.ensures) _ (c.in_default-char_at.ensures.char_says l)

pub returns-then-v-w : goal.returns-then-v-w
returns-then-v-w c l =
    both_differ _ _ _ _ _ (both_alike _ _ _ _ _ (c.loop-a.invariant.2 l) _ c.alike-n.ensures) _ _ _ _ _ _ (c.in-Ok.ensures.char_says l) (c.in-Ok-char_at.ensures.char_says l) c.if-v-w.true

pub loop-a-preserved : goal.loop-a-preserved
loop-a-preserved c =
    (c.in-Ok.ensures.inside.0.inside, c.in-Ok-char_at.ensures.inside.0.inside, λ l. both_agree _ _ _ _ _ (both_alike _ _ _ _ _ (c.loop-a.invariant.2 l) _ c.alike-n.ensures) _ _ _ _ _ _ (c.in-Ok.ensures.char_says l) (c.in-Ok-char_at.ensures.char_says l) c.if-v-w.false)
