-- The definition. Assumes nothing.
use Rattle.jsontext.specs.Strings.{low?}
use Rattle.jsontext.proofs.pieces.is_low.Goals as goal

pub returns : goal.returns
unfolding low?
returns c = cc
