-- `cidhomba::cidhomba_write_term` meets its contract: the writer's answer, as a number, and the space as it was left. Assumes nothing.
use mathlib.Core.Path.{ap, ◌∙◌}
use Rattle.cidhomba.specs.Code.{count_code}
use Rattle.cidhomba.proofs.cidhomba_write_term.Goals as goal

pub returns : goal.returns
returns c = record { answer = c.code.ensures ∙ ap count_code c.write.ensures.answer; space = c.write.ensures.space }
