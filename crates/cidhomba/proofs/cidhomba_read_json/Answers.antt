-- `cidhomba::cidhomba_read_json` meets its contract: the reader's answer, as a number. Assumes nothing.
use mathlib.Core.Path.{ap, ◌∙◌}
use Rattle.cidhomba.specs.Code.{json_code}
use Rattle.cidhomba.proofs.Coded.{json_coded}
use Rattle.cidhomba.proofs.cidhomba_read_json.Goals as goal

pub returns : goal.returns
returns c = record { answer = c.text_code.ensures ∙ json_coded c.read.result ∙ ap json_code c.read.ensures.answer; space = c.read.ensures.space }
