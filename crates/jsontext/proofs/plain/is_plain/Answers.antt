-- The definition's tests. Assumes nothing.
use mathlib.Core.Path.{refl}
use Rattle.jsontext.specs.Strings.{plain?}
use Rattle.jsontext.proofs.plain.is_plain.Goals as goal

pub returns : goal.returns
unfolding plain?
returns c = refl
