-- The rate of a decimal number as its own fraction, rounded once to the nearest (document 02, Wish 1; document 01, section "What to write where"). Assumes nothing.
use Rattle.std.specs.Prelude.{Bool, false, ℕ, ◌^◌, Float}
use Rattle.std.specs.Float.{binary64}
use Rattle.std.specs.Float.Ieee.{round}
use Rattle.jsontext.specs.Number.{signed}

-- the digits over the power of ten, rounded once, then the sign: what `rate` comes to (proofs/Rates)
unfoldable pub nearest_rate : Bool → ℕ → ℕ → Float
nearest_rate negative digits places = signed negative (round binary64 false digits (10 ^ places))
