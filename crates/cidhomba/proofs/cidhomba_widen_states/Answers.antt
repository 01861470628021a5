-- `cidhomba::cidhomba_widen_states` meets its contract: the answer of `forms::widen_states`, as a number. Assumes nothing.
use mathlib.Core.Path.{ap, ◌∙◌}
use Rattle.cidhomba.specs.Code.{count_code}
use Rattle.cidhomba.proofs.cidhomba_widen_states.Goals as goal

pub returns : goal.returns
returns c = record { answer = c.code.ensures ∙ ap count_code c.widen_states.ensures.answer; space = c.widen_states.ensures.space }
