-- `cidhomba::cidhomba_read_term` meets its contract: the reader's answer, as a number. Assumes nothing.
use mathlib.Core.Path.{ap, ◌∙◌}
use Rattle.cidhomba.specs.Code.{read_code}
use Rattle.cidhomba.proofs.Coded.{term_coded}
use Rattle.cidhomba.proofs.cidhomba_read_term.Goals as goal

pub returns : goal.returns
returns c = record { answer = c.text_code.ensures ∙ term_coded c.read.result ∙ ap read_code c.read.ensures.answer; space = c.read.ensures.space }
