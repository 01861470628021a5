-- The definition's tests. Assumes nothing.
use mathlib.Core.Path.{refl, sym, ap, ◌∙◌}
use native.Mathlib.Omega.{arith}
use Rattle.jsontext.specs.Strings.{as_raw}
use Rattle.jsontext.specs.StringAnswers.{piece_of}
use Rattle.jsontext.proofs.Failing.{handed}
use Rattle.base.proofs.Bytes.{past}
use Rattle.jsontext.proofs.Ways.{piece_closed, piece_escape, piece_control, piece_plain, piece_sequence}
use Rattle.jsontext.proofs.PieceEnds.{piece_past, sequence_inside}
use Rattle.jsontext.proofs.pieces.piece_at.Goals as goal

pub returns-then-at-text : goal.returns-then-at-text
returns-then-at-text c = record { answer = λ l. sym (piece_past c.args.text.now c.args.at (sym (past c.args.text.now c.args.at c.if-at-text.true))); inside = tt }

pub returns-then-b-eq34 : goal.returns-then-b-eq34
returns-then-b-eq34 c = record { answer = λ l. piece_closed _ _ _ refl c.if-b-eq34.true; inside = tt }

pub returns-then-b-eq92 : goal.returns-then-b-eq92
returns-then-b-eq92 c = record { answer = λ l. c.in_ok-c.ensures.answer l ∙ piece_escape _ _ _ refl c.if-b-eq34.false c.if-b-eq92.true; inside = c.in_ok-c.ensures.inside }

pub returns-in_err-c-clause-answer : goal.returns-in_err-c-clause-answer
returns-in_err-c-clause-answer c l = ap piece_of (handed _ c.from_residual.ensures.1) ∙ c.in_err-c.ensures.answer l ∙ piece_escape _ _ _ refl c.if-b-eq34.false c.if-b-eq92.true

pub returns-then-is_control : goal.returns-then-is_control
returns-then-is_control c = record { answer = λ l. piece_control _ _ _ refl c.if-b-eq34.false c.if-b-eq92.false (sym (c.is_control.ensures.compared l) ∙ c.if-is_control.true); inside = tt }

pub returns-then-b-lt128 : goal.returns-then-b-lt128
returns-then-b-lt128 c = record { answer = λ l. piece_plain _ _ _ refl c.if-b-eq34.false c.if-b-eq92.false (sym (c.is_control.ensures.compared l) ∙ c.if-is_control.false) c.if-b-lt128.true; inside = (record { forward = omega arith; inside = omega (arith, c.if-at-text.false) }, omega arith) }

pub returns-in_err-sequence-clause-answer : goal.returns-in_err-sequence-clause-answer
returns-in_err-sequence-clause-answer c l =
    ap piece_of (handed _ c.from_residual-in_err-sequence.ensures.1)
    ∙ ap as_raw c.in_err-sequence.ensures
    ∙ piece_sequence _ _ _ refl c.if-b-eq34.false c.if-b-eq92.false (sym (c.is_control.ensures.compared l) ∙ c.if-is_control.false) c.if-b-lt128.false

pub returns : goal.returns
returns c =
    record {
      answer = λ l. ap as_raw c.in_ok-sequence.ensures ∙ piece_sequence _ _ _ refl c.if-b-eq34.false c.if-b-eq92.false (sym (c.is_control.ensures.compared l) ∙ c.if-is_control.false) c.if-b-lt128.false;
      inside = sequence_inside _ _ _ (omega (arith, c.shared_slice_known-2-1.given c.args.at)) c.in_ok-sequence.ensures;
    }
