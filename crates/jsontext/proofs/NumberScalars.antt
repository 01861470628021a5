-- The scalar of a number without exponent, from its digits as they are carried. Assumes nothing.
use mathlib.Core.Path.{◌≡◌, refl, sym, ap, ◌∙◌}
use mathlib.Core.Bool.{Bool, true, false, not, ◌&&◌}
use mathlib.Core.Option.{Option, none, some}
use Rattle.std.specs.Prelude.{Some, None}
use Prim.Native.Nat.{ℕ, ◌-◌, ◌^◌, ◌<◌, ◌≤◌}
use native.Mathlib.Omega.{arith}
use borrow.Author.Tests.{leb-true, leb-false, lt-ltb, le-ltb, le-leb, lt-leb}
use lib.Dec.{leb, ltb}
use lib.Ieee.{Float, binary64, to_bits}
use Rattle.base.specs.Text.{Got, got}
use Rattle.document.specs.Scalars.{row_rate}
use Rattle.document.specs.declared.scalar.Scalar.{Scalar}
use Rattle.document.specs.declared.scalar.Scalar.TheVariants.{Count}
use Rattle.jsontext.specs.Number.{Digits, Number, with_exponent, plain_number, count?, decimal?, rate, number_scalar, as_scalar}
use Rattle.jsontext.specs.NumberAnswer.{Short, ShortRead, carried}
use Rattle.jsontext.specs.declared.number.DigitRun.{DigitRun}
use Rattle.jsontext.proofs.DigitRuns.{short_up, short_none, value_fits, value_past}

-- a number with an exponent is neither a count nor a rate
abbrev raised : Number → Number
raised m = record { negative = m.negative; digits = m.digits; places = m.places; fraction = m.fraction; exponent = true }

no_scalar : (m : Number) → number_scalar (raised m) ≡ none
unfolding number_scalar count? decimal?
no_scalar m = let c : count? (raised m) ≡ false = go m.negative m.fraction in rw (number_scalar, c)
  where
    go : (a b : Bool) → (not a && not b && false && ltb m.digits.value (2 ^ 64)) ≡ false
    go true b = refl
    go false true = refl
    go false false = refl

-- so only its end is told
module _ (m : Number) (g : Got Digits) (e : ℕ) where
  pub exponent_ends : (d : Digits) → g ≡ got d e → got none e ≡ as_scalar (with_exponent m g)
  exponent_ends d q = ap (λ (o : Option Scalar). got o e) (sym (no_scalar m)) ∙ ap (λ (x : Got Digits). as_scalar (with_exponent m x)) (sym q)

-- so large a value has more than 15 digits
many : (n : ℕ) → Short (2 ^ 64 - 1) n → 15 < n
many n h = go (leb n 15) refl
  where
    go : (b : Bool) → leb n 15 ≡ b → 15 < n
    go true e = let s = short_up (2 ^ 64 - 1) n h 15 (leb-true n 15 e) in absurd (omega arith)
    go false e = leb-false n 15 e

module _ (s f : Bool) (k : ℕ) (r : DigitRun) (d : Digits) (held : r ≡ carried d) where
  n_is : r.count ≡ d.count
  n_is = ap (λ (x : DigitRun). x.count) held

  counts : (b : Bool) → ltb d.value (2 ^ 64) ≡ b → count? (plain_number s d k f) ≡ (not s && not f && b)
  unfolding count?
  counts b e = go s f ∙ ap (λ (x : Bool). not s && not f && x) e
    where
      go : (a b : Bool) → (not a && not b && true && ltb d.value (2 ^ 64)) ≡ (not a && not b && ltb d.value (2 ^ 64))
      go true b = refl
      go false true = refl
      go false false = refl

  none_scalar : count? (plain_number s d k f) ≡ false → 15 < r.count → none ≡ number_scalar (plain_number s d k f)
  unfolding number_scalar decimal?
  none_scalar e h = rw (number_scalar, e, lt-leb d.count 15 (omega (arith, n_is)))

  -- a value of 2^64 or more has more digits than a rate
  pub as_past : r.value ≡ None → ShortRead r → none ≡ number_scalar (plain_number s d k f)
  as_past e short =
      let l = value_past r e d held in
      none_scalar (counts false (le-ltb d.value (2 ^ 64) l) ∙ last s f) (many r.count (short_none r e short))
    where
      last : (a b : Bool) → (not a && not b && false) ≡ false
      last true b = refl
      last false true = refl
      last false false = refl

  module _ (v : ℕ) (is : r.value ≡ Some v) where
    fits : ltb d.value (2 ^ 64) ≡ true
    fits = let f = value_fits r v is d held in lt-ltb d.value (2 ^ 64) (omega (arith, f.0))

    counted : count? (plain_number s d k f) ≡ (not s && not f)
    counted = counts true fits ∙ go s f
      where
        go : (a b : Bool) → (not a && not b && true) ≡ (not a && not b)
        go true b = refl
        go false true = refl
        go false false = refl

    pub as_count : (not s && not f) ≡ true → some (Count v) ≡ number_scalar (plain_number s d k f)
    unfolding number_scalar
    as_count e = rw (number_scalar, counted ∙ e, (value_fits r v is d held).0)

    module _ (no-count : (not s && not f) ≡ false) where
      pub as_none : 15 < r.count → none ≡ number_scalar (plain_number s d k f)
      as_none h = none_scalar (counted ∙ no-count) h

      pub as_rate : r.count ≤ 15 → (x : Float) (bits : ℕ) → x ≡ rate s v k → bits ≡ to_bits binary64 x → some (row_rate bits) ≡ number_scalar (plain_number s d k f)
      unfolding number_scalar decimal?
      as_rate h x bits p q =
          let m : bits ≡ to_bits binary64 (rate s d.value k) = q ∙ ap (to_bits binary64) (p ∙ ap (λ (n : ℕ). rate s n k) (value_fits r v is d held).0) in
          rw (number_scalar, counted ∙ no-count, le-leb d.count 15 (omega (arith, n_is)), m)
