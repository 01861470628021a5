use Rattle.std.proofs.Common.{rules}
use Rattle.automaton.specs.Stored.{word}
use Rattle.automaton.proofs.slice.word_inside.Goals as goal

pub returns : goal.returns
unfolding word
returns c = search rules
