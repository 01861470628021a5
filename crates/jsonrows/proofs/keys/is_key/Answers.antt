-- The two tests are those of the definition. Assumes nothing.
use mathlib.Core.Path.{refl}
use Rattle.jsonrows.specs.Keys.{key?}
use Rattle.jsonrows.proofs.keys.is_key.Goals as goal

pub returns : goal.returns
unfolding key?
returns c = refl
