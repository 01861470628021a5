-- `cidhomba::cidhomba_membership` meets its contract: the judge's answer, as a number. Assumes nothing.
use mathlib.Core.Path.{◌∙◌}
use Rattle.cidhomba.proofs.Coded.{judged_coded}
use Rattle.cidhomba.proofs.cidhomba_membership.Goals as goal

pub returns : goal.returns
returns c = record { answer = c.judge.result; coded = c.code.ensures ∙ judged_coded c.judge.result; judging = c.judge.ensures }
