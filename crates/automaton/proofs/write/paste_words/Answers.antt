use Rattle.automaton.proofs.Put.{pastes}
use Rattle.automaton.proofs.write.paste_words.Goals as goal

pub loop-i-preserved : goal.loop-i-preserved
loop-i-preserved c = search pastes

pub returns : goal.returns
returns c = search pastes
