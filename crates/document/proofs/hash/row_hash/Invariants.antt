-- `document::hash::row_hash` meets its contract: what is left to hash from h on gives the row's hash. Assumes nothing.
use Rattle.document.proofs.Hashing.{Hashed}
use Rattle.document.proofs.hash.row_hash.Given as goal

abbrev pub invariant-loop-x : goal.invariant-loop-x
invariant-loop-x l = Hashed l.fn.cells l.h l.x-index
