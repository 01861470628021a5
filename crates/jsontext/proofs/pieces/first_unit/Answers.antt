-- The definition's tests. Assumes nothing.
use mathlib.Core.Path.{◌≡◌, ◌∙◌}
use mathlib.Core.Bool.{true}
use Rattle.base.specs.Text.{byte_at}
use Rattle.jsontext.specs.Strings.{dee?, low?}
use Rattle.jsontext.proofs.Tested.{tested}
use Rattle.jsontext.proofs.Ways.{first_other, first_low, first_high}
use Rattle.jsontext.proofs.pieces.first_unit.Goals as goal

pub returns-then-not-is_dee : goal.returns-then-not-is_dee
returns-then-not-is_dee c = record { answer = λ l. c.hex.ensures.answer l ∙ first_other _ _ (tested dee? c.byte_at.ensures c.is_dee.ensures c.if-not-is_dee.true); inside = c.hex.ensures.inside }

pub returns-then-is_low : goal.returns-then-is_low
returns-then-is_low c = record { answer = λ l. first_low _ _ (let h-dee : dee? (byte_at c.args.text.now c.args.at) ≡ true = tested dee? c.byte_at.ensures c.is_dee.ensures c.if-not-is_dee.false in h-dee) (tested low? c.byte_at-2.ensures c.is_low.ensures c.if-is_low.true); inside = tt }

pub returns : goal.returns
returns c = record { answer = λ l. c.hex-2.ensures.answer l ∙ first_high _ _ (let h-dee : dee? (byte_at c.args.text.now c.args.at) ≡ true = tested dee? c.byte_at.ensures c.is_dee.ensures c.if-not-is_dee.false in h-dee) (tested low? c.byte_at-2.ensures c.is_low.ensures c.if-is_low.false); inside = c.hex-2.ensures.inside }
