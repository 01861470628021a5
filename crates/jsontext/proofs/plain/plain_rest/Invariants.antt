-- At the loop's head the bytes so far stand for themselves. Assumes nothing.
use Rattle.jsontext.specs.StringAnswers.{Plains}
use Rattle.jsontext.proofs.plain.plain_rest.Given as goal

abbrev pub invariant-loop-i : goal.invariant-loop-i
invariant-loop-i l = Plains l.text l.at l.i
