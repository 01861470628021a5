-- At the loop's head k digits were read. Assumes nothing.
use mathlib.Core.Path.{◌≡◌, sym, ap, ◌∙◌, subst}
use mathlib.Core.Bool.{true}
use Prim.Native.Nat.{◌+◌}
use native.Mathlib.Omega.{arith}
use Rattle.classes.specs.Classes.{either_hex_digit?, class_table}
use Rattle.base.specs.Text.{byte_at, got}
use Rattle.jsontext.specs.StringAnswers.{Ahead}
use Rattle.jsontext.proofs.HexDigits.{hex_end, hex_ahead, hex_room, hex_stop, hex_past, hex_more}
use Rattle.jsontext.proofs.pieces.hex.Goals as goal

pub returns-then-i-text : goal.returns-then-i-text
returns-then-i-text c = record { answer = hex_past _ _ _ _ _ _ c.loop-k.invariant c.loop-k-test.true c.if-i-text.true; inside = tt }

pub returns-then-not-is_hex_digit : goal.returns-then-not-is_hex_digit
returns-then-not-is_hex_digit c = record { answer = λ l. hex_stop _ _ _ _ _ _ c.loop-k.invariant (omega arith) (sym (c.is_hex_digit.ensures.compared l) ∙ c.if-not-is_hex_digit.true) l; inside = tt }

pub overflow_mul-v : goal.overflow_mul-v
overflow_mul-v c = omega (arith, hex_room _ _ _ _ _ _ c.loop-k.invariant (omega arith))

pub overflow_add-v : goal.overflow_add-v
overflow_add-v c = omega (arith, hex_room _ _ _ _ _ _ c.loop-k.invariant (omega arith), c.hex_value.ensures.few)

pub loop-k-preserved : goal.loop-k-preserved
loop-k-preserved c =
    let digit : c.args.classes.now ≡ class_table → either_hex_digit? (byte_at c.args.text.now (c.args.at + c.loop-k.k)) ≡ true = λ l. sym (c.is_hex_digit.ensures.compared l) ∙ c.if-not-is_hex_digit.false in
    let more = hex_more _ _ _ _ _ _ c.loop-k.invariant (omega arith) _ c.if-i-text.false c.hex_value.ensures.few digit (λ l. c.hex_value.ensures.value (digit l)) in
    let z : c.args.at + c.loop-k.k + 1 ≡ c.args.at + (c.loop-k.k + 1) = omega arith in
    rw z at more

pub returns : goal.returns
returns c =
    let e : c.loop-k.k ≡ 4 = omega arith in
    let place : c.args.at + c.loop-k.k ≡ c.args.at + 4 = omega arith in
    record {
      answer = λ l. ap (got c.loop-k.v) (sym place) ∙ hex_end _ _ _ _ _ _ c.loop-k.invariant c.loop-k-test.false l;
      inside = subst (Ahead c.args.text.now (c.args.at + 4)) place (hex_ahead _ _ _ _ _ _ c.loop-k.invariant c.loop-k-test.false);
    }
