-- `cidhomba::cidhomba_product` meets its contract: the answer of `boolean::product`, as a number. Assumes nothing.
use mathlib.Core.Path.{ap, ◌∙◌}
use Rattle.cidhomba.specs.Code.{count_code}
use Rattle.cidhomba.proofs.cidhomba_product.Goals as goal

pub returns : goal.returns
returns c = record { answer = c.code.ensures ∙ ap count_code c.product.ensures.answer; space = c.product.ensures.space }
