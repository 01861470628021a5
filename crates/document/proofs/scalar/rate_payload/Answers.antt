-- `document::scalar::rate_payload` meets its contract. Assumes nothing.
use mathlib.Core.Path.{sym, ◌∙◌}
use native.Mathlib.Omega.{arith}
use Rattle.document.proofs.Rates.{payload_row_rate, kind_row_rate}
use Rattle.document.proofs.scalar.rate_payload.Goals as goal

pub returns : goal.returns
returns c = (c.one_zero.ensures ∙ sym (payload_row_rate c.args.bits (omega (arith, c.ranges))), kind_row_rate c.args.bits)
