-- `automaton::raw::symbol_byte` meets its contract: the offset is the header's. Assumes nothing.
use Rattle.automaton.specs.Stored.{symbol_byte}
use borrow.Author.Rules.{rules}
use Rattle.automaton.proofs.raw.symbol_byte.Goals as goal

pub returns : goal.returns
unfolding symbol_byte
returns c = (cc, search rules)
