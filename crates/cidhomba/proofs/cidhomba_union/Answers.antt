-- `cidhomba::cidhomba_union` meets its contract: the answer of `boolean::union`, as a number. Assumes nothing.
use mathlib.Core.Path.{ap, ◌∙◌}
use Rattle.cidhomba.specs.Code.{count_code}
use Rattle.cidhomba.proofs.cidhomba_union.Goals as goal

pub returns : goal.returns
returns c = record { answer = c.code.ensures ∙ ap count_code c.union.ensures.answer; space = c.union.ensures.space }
