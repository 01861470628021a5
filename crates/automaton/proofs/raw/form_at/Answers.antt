-- `automaton::raw::form_at` meets its contract: the distance from the states to the rules tells, and then the total. Assumes nothing.
use mathlib.Core.Path.{◌∙◌}
use Rattle.automaton.proofs.Widths.{form_narrow, form_wide, form_isolating}
use Rattle.automaton.proofs.raw.form_at.Goals as goal

pub returns-then-first-end : goal.returns-then-first-end
returns-then-first-end c = form_narrow _ _ _ (c.from-first.ensures ∙ c.rules_at.ensures) (cc (c.states_length.ensures.0, c.header_word.ensures, c.from.ensures, c.states_at.ensures)) c.if-first-end.true

pub returns-then-from-total : goal.returns-then-from-total
returns-then-from-total c = form_wide _ _ _ (c.from-first.ensures ∙ c.rules_at.ensures) (cc (c.states_length.ensures.0, c.header_word.ensures, c.from.ensures, c.states_at.ensures)) c.if-first-end.false _ _ (c.from-2.ensures ∙ c.header_word-3.ensures) (cc (c.rules_length.ensures.0, c.header_word-2.ensures)) c.if-from-total.true

pub returns-else-from-total : goal.returns-else-from-total
returns-else-from-total c = form_isolating _ _ _ (c.from-first.ensures ∙ c.rules_at.ensures) (cc (c.states_length.ensures.0, c.header_word.ensures, c.from.ensures, c.states_at.ensures)) c.if-first-end.false _ _ (c.from-2.ensures ∙ c.header_word-3.ensures) (cc (c.rules_length.ensures.0, c.header_word-2.ensures)) c.if-from-total.false
