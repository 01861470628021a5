-- `cidhomba::cidhomba_witness` meets its contract: the answer, as a number, and the space as it was left. Assumes nothing.
use mathlib.Core.Path.{ap, ◌∙◌}
use Rattle.cidhomba.specs.Code.{witness_code}
use Rattle.cidhomba.proofs.Coded.{witness_coded}
use Rattle.cidhomba.proofs.cidhomba_witness.Goals as goal

pub returns : goal.returns
returns c = record { answer = c.code.ensures ∙ witness_coded c.witness.result ∙ ap witness_code c.witness.ensures.answer; space = c.witness.ensures.space }
