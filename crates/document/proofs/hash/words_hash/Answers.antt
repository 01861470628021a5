-- The first six cells, then the rest. Assumes nothing.
use Rattle.document.proofs.Hashing.{words_hashed}
use Rattle.document.proofs.hash.words_hash.Goals as goal

pub returns : goal.returns
returns c = words_hashed c.args.a c.args.b c.args.c c.middle_hash.result c.add_rest.result c.middle_hash.ensures c.add_rest.ensures
