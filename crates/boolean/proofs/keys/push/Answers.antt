-- `boolean::keys::push` meets its contract. Assumes nothing.
use mathlib.Core.Path.{refl}
use Rattle.boolean.specs.Key.{pushed}
use Rattle.boolean.proofs.keys.push.Goals as goal

pub returns : goal.returns
unfolding pushed
returns c = refl
