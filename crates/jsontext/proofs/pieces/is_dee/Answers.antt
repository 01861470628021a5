-- The definition. Assumes nothing.
use mathlib.Core.Path.{refl}
use Rattle.jsontext.specs.Strings.{dee?}
use Rattle.jsontext.proofs.pieces.is_dee.Goals as goal

pub returns : goal.returns
unfolding dee?
returns c = refl
