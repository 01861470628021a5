-- `boolean::write::put_front` meets its contract: the header, then the symbols. Assumes nothing.
use Rattle.automaton.specs.Stored.{decode}
use Rattle.boolean.proofs.Writing.{front_laid}
use Rattle.boolean.proofs.write.put_front.Goals as goal

pub returns : goal.returns
returns c = front_laid c.args.form (decode c.args.set.now) _ _ _ _ c.header-symbols.ensures.symbols _ _ _ c.requires.3 c.put_header-at.ensures _ _ c.put_symbols.ensures
