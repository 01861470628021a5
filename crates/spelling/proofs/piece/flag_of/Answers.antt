-- `spelling::piece::flag_of` meets its contract: both words stand in the bytes. Assumes nothing.
use mathlib.Core.Path.{refl}
use Rattle.spelling.specs.Text.{scalar_text}
use Rattle.spelling.proofs.piece.flag_of.Goals as goal

pub returns-then-b : goal.returns-then-b
unfolding scalar_text
returns-then-b c = rw c.if-b.true (record { is = refl; size = refl; long = refl })

pub returns : goal.returns
unfolding scalar_text
returns c = rw c.if-b.false (record { is = refl; size = refl; long = refl })
