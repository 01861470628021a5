-- `boolean::pairs::window` meets its contract: in a sound set bisection ends at the first rule. Assumes nothing.
use Rattle.automaton.proofs.Known.{known_first}
use Rattle.boolean.proofs.pairs.window.Goals as goal

pub returns : goal.returns
returns c = record { starts = known_first _ _ _ c.requires.0 c.rules_from.ensures; stops = known_first _ _ _ c.requires.0 c.rules_from-2.ensures }
