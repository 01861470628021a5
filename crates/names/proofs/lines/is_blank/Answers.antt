-- Either byte. Assumes nothing.
use mathlib.Core.Path.{refl}
use Rattle.names.specs.Lines.{blank?}
use Rattle.names.proofs.lines.is_blank.Goals as goal

pub returns : goal.returns
unfolding blank?
returns c = refl
