-- Where the exponent's digits end, or where they are missing. Assumes nothing.
use mathlib.Core.Path.{◌≡◌, refl, ap, ◌∙◌}
use Prim.Native.Nat.{ℕ}
use Rattle.base.specs.Text.{Got}
use mathlib.Core.List.{List}
use Rattle.std.specs.Prelude.{Result}
use Rattle.base.specs.declared.text.Fault.{Fault}
use Rattle.jsontext.specs.declared.number.DigitRun.{DigitRun}
use Rattle.jsontext.specs.Number.{Digits, no_digits, some_digits, sign_end}
use Rattle.jsontext.specs.NumberAnswer.{carried, carried_at}
use Rattle.jsontext.proofs.NumberScalars.{exponent_ends}
use Rattle.jsontext.proofs.NumberParts.{found}
use Rattle.jsontext.proofs.number.exponent.Goals as goal

-- what was answered of the digits behind the sign
answered : {P : Type 0} {r : Result (DigitRun × ℕ) Fault} (t : List ℕ) (i first : ℕ) → first ≡ sign_end t i → (P → (d : Digits) → carried no_digits ≡ carried d → r ≡ carried_at (some_digits t d first)) → P → r ≡ carried_at (some_digits t no_digits (sign_end t i))
answered t i first e h l = h l no_digits refl ∙ ap (λ (n : ℕ). carried_at (some_digits t no_digits n)) e

pub returns : goal.returns
returns c l m =
    let asked : Got Digits = some_digits c.args.text.now no_digits (sign_end c.args.text.now c.args.at) in
    let f = found asked _ _ _ refl (answered c.args.text.now c.args.at _ c.sign_end-first.ensures c.in_ok-next.ensures.value l) in
    exponent_ends m asked _ f.digits f.is
