-- The sum so far, with what the places from k on add, is the whole. Assumes nothing.
use Rattle.spelling.proofs.Summing.{Summed}
use Rattle.spelling.proofs.lengths.list_length.Given as goal

abbrev pub invariant-loop-k : goal.invariant-loop-k
invariant-loop-k l = Summed l.rows l.lengths l.i.0 l.first l.n l.k
