-- `cidhomba::cidhomba_check_run` meets its contract: the check's answer, as a number. Assumes nothing.
use mathlib.Core.Path.{ap, ◌∙◌}
use Rattle.cidhomba.specs.Code.{check_code}
use Rattle.cidhomba.proofs.cidhomba_check_run.Goals as goal

pub returns : goal.returns
returns c = c.code.ensures ∙ ap check_code c.check.ensures
