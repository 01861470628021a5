-- `cidhomba::cidhomba_narrow_rules` meets its contract: the answer of `forms::narrow_rules`, as a number. Assumes nothing.
use mathlib.Core.Path.{ap, ◌∙◌}
use Rattle.cidhomba.specs.Code.{count_code}
use Rattle.cidhomba.proofs.cidhomba_narrow_rules.Goals as goal

pub returns : goal.returns
returns c = record { answer = c.code.ensures ∙ ap count_code c.narrow_rules.ensures.answer; space = c.narrow_rules.ensures.space }
