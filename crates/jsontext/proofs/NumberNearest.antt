-- The rate of a number that stands in a text is the nearest f64 to its own fraction. Assumes nothing.
use mathlib.Core.Path.{◌≡◌}
use mathlib.Core.Bool.{true, false}
use mathlib.Core.List.{List}
use mathlib.Core.Option.{some}
use Prim.Native.Nat.{ℕ, ◌≤◌}
use native.Mathlib.Omega.{arith}
use borrow.Author.Tests.{le-leb}
use lib.Ieee.{binary64, to_bits}
use Rattle.base.specs.Text.{got}
use Rattle.base.proofs.Got.{read_is}
use Rattle.document.specs.Scalars.{row_rate}
use Rattle.jsontext.specs.Number.{Number, count?, decimal?, rate, number_scalar, number_at}
use Rattle.jsontext.specs.Rate.{nearest_rate}
use Rattle.jsontext.proofs.Rates.{rate_nearest}
use Rattle.jsontext.proofs.NumberSizes.{SizedNumber, number_sized, few_digits}

module _ (t : List ℕ) (i n : ℕ) (m : Number) (there : number_at t i ≡ got m n) (few : m.digits.count ≤ 15) where
  pub number_nearest : rate m.negative m.digits.value m.places ≡ nearest_rate m.negative m.digits.value m.places
  number_nearest =
      let s = read_is SizedNumber m n there (number_sized t i) in
      rate_nearest m.negative m.digits.value m.places (few_digits _ _ s.0 few) (omega (arith, s.1))

  -- so of a number at a place that is no count and has no exponent, the scalar is that of the nearest rate
  pub scalar_nearest : count? m ≡ false → m.exponent ≡ false → number_scalar m ≡ some (row_rate (to_bits binary64 (nearest_rate m.negative m.digits.value m.places)))
  unfolding number_scalar decimal?
  scalar_nearest c e =
      let r = number_nearest in
      let d : decimal? m ≡ true = rw (e, le-leb m.digits.count 15 few) in
      rw (number_scalar, c, d, r)
