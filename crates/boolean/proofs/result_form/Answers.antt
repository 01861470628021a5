-- `boolean::result_form` meets its contract: the forms of both inputs tell. Assumes nothing.
use Rattle.boolean.proofs.Refusing.{form_told}
use Rattle.boolean.proofs.result_form.Goals as goal

pub returns-then-isolating : goal.returns-then-isolating
returns-then-isolating c = form_told _ _ _ _ _ _ _ c.form_of.ensures c.isolating.ensures c.form_of-2.ensures c.isolating-2.ensures c.if-isolating.true

pub returns-else-isolating : goal.returns-else-isolating
returns-else-isolating c = form_told _ _ _ _ _ _ _ c.form_of.ensures c.isolating.ensures c.form_of-2.ensures c.isolating-2.ensures c.if-isolating.false
