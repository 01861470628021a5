-- The definition's tests. Assumes nothing.
use mathlib.Core.Path.{◌≡◌, ◌∙◌}
use mathlib.Core.Bool.{true}
use Rattle.base.specs.Text.{byte_at}
use Rattle.jsontext.specs.Strings.{dee?, low?}
use Rattle.jsontext.proofs.Tested.{tested}
use Rattle.jsontext.proofs.Ways.{second_other, second_high, second_low}
use Rattle.jsontext.proofs.pieces.second_unit.Goals as goal

pub returns-then-not-is_dee : goal.returns-then-not-is_dee
returns-then-not-is_dee c = record { answer = λ l. second_other _ _ (tested dee? c.byte_at.ensures c.is_dee.ensures c.if-not-is_dee.true); inside = tt }

pub returns-then-not-is_low : goal.returns-then-not-is_low
returns-then-not-is_low c = record { answer = λ l. second_high _ _ (let h-dee : dee? (byte_at c.args.text.now c.args.at) ≡ true = tested dee? c.byte_at.ensures c.is_dee.ensures c.if-not-is_dee.false in h-dee) (tested low? c.byte_at-2.ensures c.is_low.ensures c.if-not-is_low.true); inside = tt }

pub returns : goal.returns
returns c = record { answer = λ l. c.hex.ensures.answer l ∙ second_low _ _ (let h-dee : dee? (byte_at c.args.text.now c.args.at) ≡ true = tested dee? c.byte_at.ensures c.is_dee.ensures c.if-not-is_dee.false in h-dee) (tested low? c.byte_at-2.ensures c.is_low.ensures c.if-not-is_low.false); inside = c.hex.ensures.inside }
