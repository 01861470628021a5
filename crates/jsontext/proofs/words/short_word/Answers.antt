-- The bytes, and zeros behind them. Assumes nothing.
use mathlib.Core.Path.{◌∙◌}
use native.Mathlib.Omega.{arith}
use Rattle.jsontext.proofs.Joining.{zeros_behind}
use Rattle.jsontext.proofs.words.short_word.Goals as goal

pub returns : goal.returns
returns c = c.from_le_bytes.ensures ∙ zeros_behind c.args.bytes.now _ c.copy_from_slice.ensures.after (omega arith)
