-- At the loop's head the first k bytes were read. Assumes nothing.
use native.Mathlib.Omega.{arith}
use Rattle.jsontext.proofs.Scanning.{scan_start}
use Rattle.jsontext.proofs.Comparing.{running_begin, running_alike, running_end, running_broken, running_short, running_differ, running_agree, text_none}
use Rattle.jsontext.proofs.decoded.is_text.Goals as goal

pub returns-then-byte_at-ne34 : goal.returns-then-byte_at-ne34
returns-then-byte_at-ne34 c l = text_none c.args.text.now c.args.at _ _ c.byte_at.ensures c.if-byte_at-ne34.true

pub loop-at-init : goal.loop-at-init
loop-at-init c = let s = scan_start c.args.text.now c.args.at _ c.byte_at.ensures c.if-byte_at-ne34.false in (s.inside, omega arith, λ l. running_begin _ _ _ s)

pub returns-then-byte_at-eq34 : goal.returns-then-byte_at-eq34
returns-then-byte_at-eq34 c l = running_end _ _ _ _ _ (running_alike _ _ _ _ _ (c.loop-at.invariant.2 l) _ c.alike-n.ensures) _ c.byte_at-in-loop-at.ensures c.if-byte_at-eq34.true

pub returns-in_default : goal.returns-in_default
returns-in_default c l = running_broken _ _ _ _ _ (running_alike _ _ _ _ _ (c.loop-at.invariant.2 l) _ c.alike-n.ensures) _ (c.in_default.ensures.char_says l)

pub returns-then-bytes-k : goal.returns-then-bytes-k
returns-then-bytes-k c l = running_short _ _ _ _ _ (running_alike _ _ _ _ _ (c.loop-at.invariant.2 l) _ c.alike-n.ensures) _ _ _ (c.in-Ok.ensures.char_says l) c.if-bytes-k.true

pub returns-then-few_bytes-c : goal.returns-then-few_bytes-c
returns-then-few_bytes-c c l = running_differ _ _ _ _ _ (running_alike _ _ _ _ _ (c.loop-at.invariant.2 l) _ c.alike-n.ensures) _ _ _ (c.in-Ok.ensures.char_says l) c.if-bytes-k.false _ c.few_bytes.ensures c.if-few_bytes-c.true

pub loop-at-preserved : goal.loop-at-preserved
loop-at-preserved c =
    let ahead = c.in-Ok.ensures.inside in
    (ahead.0.inside, omega (arith, c.alike-n.ensures.second.inside, c.if-bytes-k.false), λ l. running_agree _ _ _ _ _ (running_alike _ _ _ _ _ (c.loop-at.invariant.2 l) _ c.alike-n.ensures) _ _ _ (c.in-Ok.ensures.char_says l) c.if-bytes-k.false _ c.few_bytes.ensures (λ i h. omega (arith, c.shared_slice_known-2-1.given i)) c.if-few_bytes-c.false)
