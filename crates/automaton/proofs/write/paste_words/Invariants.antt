-- `automaton::write::paste_words` meets its contract: the loop has put every number before its index. Assumes nothing.
use Rattle.automaton.proofs.Put.{Pasted}
use Rattle.automaton.proofs.write.paste_words.Given as goal

abbrev pub invariant-loop-i : goal.invariant-loop-i
invariant-loop-i l = Pasted l.initial.out l.at l.words l.out l.i
