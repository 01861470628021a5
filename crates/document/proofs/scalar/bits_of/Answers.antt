-- `document::scalar::bits_of` meets its contract: a float that differs from itself is a NaN, and any other has bits of its own. Assumes nothing.
use Rattle.document.proofs.Rates.{equals_itself, nan_bits_lem}
use Rattle.document.proofs.scalar.bits_of.Goals as goal

pub float_to_bits-result : goal.float_to_bits-result
float_to_bits-result c = equals_itself c.args.x c.if-x.false

pub returns-then-x : goal.returns-then-x
returns-then-x c = nan_bits_lem c.args.x c.if-x.true
