use mathlib.Core.Path.{◌≡◌, sym, ap, subst, ◌∙◌}
use mathlib.Core.Bool.{true}
use Prim.Native.Nat.{ℕ, ◌+◌, ◌*◌}
use native.Mathlib.Omega.{arith}
use Rattle.term.specs.Scan.{byte_at, got, hex_digit?, hex_value}
use Rattle.term.proofs.Bytes.{hex_inside}
use Rattle.term.proofs.Numbers.{Hex, hex_none, hex_end, hex_stop, hex_more, hex_room}
use Rattle.term.proofs.scan.hex_bits.Goals as goal

pub loop-n-init : goal.loop-n-init
loop-n-init c =
    let e : c.args.at ≡ c.args.at + 0 = omega arith in
    (subst (Hex c.args.source.now.text.now c.args.at 0 0) e (hex_none _ _), omega arith)

pub returns-then-not-is_lower_hex : goal.returns-then-not-is_lower_hex
returns-then-not-is_lower_hex c =
    hex_stop _ _ _ _ _ c.loop-n.invariant.0 c.loop-n-test.true
    (ap hex_digit? (sym c.byte_at-b.ensures) ∙ sym c.is_lower_hex.ensures ∙ c.if-not-is_lower_hex.true)

pub overflow_mul-v : goal.overflow_mul-v
overflow_mul-v c = omega (arith, hex_room _ _ _ _ _ c.loop-n.invariant.0 c.loop-n-test.true)

pub hex_value-requires : goal.hex_value-requires
hex_value-requires c = sym c.is_lower_hex.ensures ∙ c.if-not-is_lower_hex.false

pub overflow_add-v : goal.overflow_add-v
overflow_add-v c = omega (arith, hex_room _ _ _ _ _ c.loop-n.invariant.0 c.loop-n-test.true)

pub loop-n-preserved : goal.loop-n-preserved
loop-n-preserved c =
    let i = c.args.at + c.loop-n.n in
    let digit : hex_digit? (byte_at c.args.source.now.text.now i) ≡ true = ap hex_digit? (sym c.byte_at-b.ensures) ∙ sym c.is_lower_hex.ensures ∙ c.if-not-is_lower_hex.false in
    let inside = hex_inside c.args.source.now.text.now i digit in
    let next : c.args.at + c.loop-n.n + 1 ≡ c.args.at + (c.loop-n.n + 1) = omega arith in (
      subst (Hex c.args.source.now.text.now c.args.at (c.loop-n.v * 16 + c.hex_value.result) (c.loop-n.n + 1)) next
          (hex_more _ _ _ _ _ c.loop-n.invariant.0 c.loop-n-test.true _ digit (c.hex_value.ensures.0 ∙ ap hex_value c.byte_at-b.ensures) c.hex_value.ensures.1),
      omega (arith, inside),
    )

pub returns : goal.returns
returns c =
    let last : c.args.at + c.loop-n.n ≡ c.args.at + 16 = omega (arith, c.loop-n.invariant.0.few) in
    ap (λ (k : ℕ). got c.loop-n.v k) (sym last) ∙ hex_end _ _ _ _ _ c.loop-n.invariant.0 (omega arith)
