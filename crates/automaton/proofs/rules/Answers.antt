-- `automaton::rules` meets its contract: the count is the length. Assumes nothing.
use mathlib.Core.Path.{sym, ◌∙◌}
use Rattle.automaton.proofs.Decode.{rules_are}
use Rattle.automaton.proofs.rules.Goals as goal

pub returns : goal.returns
returns c = c.header_word.ensures ∙ sym (rules_are _)
