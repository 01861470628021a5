-- `boolean::states::put_both_states` meets its contract: the first's states, then the second's. Assumes nothing.
use Rattle.automaton.specs.Stored.{decode}
use Rattle.boolean.proofs.Writing.{union_states_laid}
use Rattle.boolean.proofs.states.put_both_states.Goals as goal

pub returns : goal.returns
returns c = union_states_laid _ (decode c.args.sets.first.now) (decode c.args.sets.second.now) _ _ c.requires.1 _ _ _ _ _ c.put_states-firsts.ensures c.header.ensures.tags c.put_states.ensures
