-- At the loop's head what was read is kept. Assumes nothing.
use mathlib.Core.Path.{ap, ◌∙◌}
use Rattle.jsontext.specs.StringAnswers.{slot_of}
use Rattle.jsontext.proofs.Failing.{handed}
use Rattle.jsontext.proofs.DecodedSlots.{Keeping, keeping_begin, keeping_more, keeping_end, keeping_broken}
use Rattle.jsontext.proofs.strings.read_on.Goals as goal

pub loop-c-init : goal.loop-c-init
loop-c-init c = (c.requires.behind.1.inside, c.requires.open, λ l. keeping_begin _ _ _ _ c.requires.behind.1 _ _ c.requires.behind.0 c.keep_none.ensures c.keep_part-k.ensures)

pub returns-in_err-c : goal.returns-in_err-c
returns-in_err-c c l = ap slot_of (handed _ c.from_residual.ensures.1) ∙ keeping_broken _ _ _ _ (c.loop-c.invariant.2 l) _ (c.in_err-c.ensures.char_says l)

pub returns-then-byte_at-eq34 : goal.returns-then-byte_at-eq34
returns-then-byte_at-eq34 c l =
    let there = c.in_ok-c.ensures.char_says l in
    let more : Keeping c.args.text.now c.args.at c.plain_far-i.result c.keep_part-k-in-loop-c.result =
    keeping_more _ _ _ _ (c.loop-c.invariant.2 l) _ _ _ there _ c.plain_far-i.ensures _ _ (λ bs v. c.keep_few.ensures bs _ v there.is.bytes there.is.count there.is.joined) c.keep_part-k-in-loop-c.ensures in
    keeping_end _ _ _ _ more _ c.byte_at.ensures c.if-byte_at-eq34.true _ c.kept_slot.ensures

pub loop-c-preserved : goal.loop-c-preserved
loop-c-preserved c = (
  c.plain_far-i.ensures.inside,
  λ q. c.if-byte_at-eq34.false (c.byte_at.ensures ∙ q),
  λ l.
      let there = c.in_ok-c.ensures.char_says l in
      let more : Keeping c.args.text.now c.args.at c.plain_far-i.result c.keep_part-k-in-loop-c.result =
      keeping_more _ _ _ _ (c.loop-c.invariant.2 l) _ _ _ there _ c.plain_far-i.ensures _ _ (λ bs v. c.keep_few.ensures bs _ v there.is.bytes there.is.count there.is.joined) c.keep_part-k-in-loop-c.ensures in
      more,
)
