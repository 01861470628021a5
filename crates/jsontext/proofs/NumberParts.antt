-- The parts of a number as they are answered: what was read there, and what it leads to. Assumes nothing.
use mathlib.Core.Path.{◌≡◌, sym, ap, ◌∙◌}
use mathlib.Core.Bool.{Bool, true}
use mathlib.Core.List.{List}
use mathlib.Core.Option.{Option}
use Prim.Native.Nat.{ℕ, ◌-◌}
use native.Mathlib.Omega.{arith}
use Rattle.base.specs.Text.{Got, got, fault}
use Rattle.document.specs.declared.scalar.Scalar.{Scalar}
use Rattle.jsontext.specs.Number.{Digits, Number, some_digits, exponent_at, plain_number, after_fraction, as_scalar}
use Rattle.jsontext.specs.NumberAnswer.{carried, carried_at}
use Rattle.jsontext.specs.declared.number.DigitRun.{DigitRun}
use Rattle.std.specs.Prelude.{Result, Ok, Err}
use Rattle.base.specs.declared.text.Fault.{Fault}

-- digits that were answered are those of the definition
pub record Found (g : Got Digits) (r : DigitRun) (n : ℕ) : Type 0 where
  pub digits : Digits
  pub is : g ≡ got digits n
  pub held : r ≡ carried digits

pub found : (g : Got Digits) (r : DigitRun) (n : ℕ) (a : Result (DigitRun × ℕ) Fault) → a ≡ Ok (r, n) → a ≡ carried_at g → Found g r n
found (got d m) r n a given is =
    let e : ◌≡◌ {A = DigitRun × ℕ} (r, n) (carried d, m) = cc in
    record { digits = d; is = ap (λ (x : DigitRun × ℕ). got d x.1) (sym e); held = ap (λ (x : DigitRun × ℕ). x.0) e }
found (fault p) r n a given is = let z : ◌≡◌ {A = ℕ} 0 1 = cc in absurd (omega arith)

pub not_found : (g : Got Digits) (f : Fault) (a : Result (DigitRun × ℕ) Fault) → a ≡ Err f → a ≡ carried_at g → g ≡ fault f.0
not_found (got d n) f a given is = let z : ◌≡◌ {A = ℕ} 0 1 = cc in absurd (omega arith)
not_found (fault q) f a given is = let e : q ≡ f.0 = cc in ap fault e

-- behind the whole part, and behind a point after the whole part d: what the digits read there lead to
module _ (t : List ℕ) (s : Bool) where
  pub fraction_read : (d : Digits) (i : ℕ) (whole all : DigitRun) (n : ℕ) → whole ≡ carried d → (f : Found (some_digits t d i) all n)
      → (x : Got (Option Scalar)) → x ≡ as_scalar (exponent_at t (plain_number s f.digits (all.count - whole.count) true) n) → (m : Got Number) → m ≡ after_fraction t s d (some_digits t d i) → x ≡ as_scalar m
  fraction_read d i whole all n held f x answer m is =
      let w : whole.count ≡ d.count = ap (λ (r : DigitRun). r.count) held in
      let a : all.count ≡ f.digits.count = ap (λ (r : DigitRun). r.count) f.held in
      (rw (w, a) at answer) ∙ ap as_scalar (ap (after_fraction t s d) (sym f.is) ∙ sym is)

  pub fraction_faults : (d : Digits) (g : Got Digits) (p : ℕ) → g ≡ fault p → fault p ≡ as_scalar (after_fraction t s d g)
  fraction_faults d g p e = ap (λ (x : Got Digits). as_scalar (after_fraction t s d x)) (sym e)
