-- `boolean::keys::with_mask` meets its contract. Assumes nothing.
use mathlib.Core.Path.{refl}
use Rattle.boolean.specs.Key.{masked}
use Rattle.boolean.proofs.keys.with_mask.Goals as goal

pub returns : goal.returns
unfolding masked
returns c = refl
