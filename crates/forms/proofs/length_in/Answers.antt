-- `forms::length_in` meets its contract: the counts are those that the header says. Assumes nothing.
use mathlib.Core.Path.{◌∙◌}
use Rattle.automaton.specs.Stored.{decode}
use Rattle.forms.proofs.Moving.{counted}
use Rattle.forms.proofs.length_in.Goals as goal

pub returns : goal.returns
returns c = c.total_length.ensures ∙ counted c.args.form (decode c.args.set.now) _ _ _ c.header-h.ensures.symbols c.header-h.ensures.states c.header-h.ensures.rules
