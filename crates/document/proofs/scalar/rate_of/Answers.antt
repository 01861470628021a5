-- `document::scalar::rate_of` meets its contract: its test tells a NaN's bits. Assumes nothing.
use Rattle.document.specs.Scalars.{rate_of}
use Rattle.document.proofs.Rates.{nan_above, not_above, not_T}
use Rattle.document.proofs.scalar.rate_of.Goals as goal

pub float_from_bits-result : goal.float_from_bits-result
unfolding rate_of
float_from_bits-result c = not_T (not_above c.args.bits c.if-bits-gt-INFINITY.false)

pub returns-then-bits-gt-INFINITY : goal.returns-then-bits-gt-INFINITY
unfolding rate_of
returns-then-bits-gt-INFINITY c = rw (nan_above c.args.bits c.if-bits-gt-INFINITY.true)

pub returns-else-bits-gt-INFINITY : goal.returns-else-bits-gt-INFINITY
unfolding rate_of
returns-else-bits-gt-INFINITY c = rw (not_above c.args.bits c.if-bits-gt-INFINITY.false)
