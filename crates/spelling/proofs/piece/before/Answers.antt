-- `spelling::piece::before` meets its contract: the byte is set in front of the text. Assumes nothing.
use mathlib.Core.Path.{refl}
use Prim.Native.Nat.{◌-◌}
use Rattle.spelling.proofs.Pieces.{byte_before}
use Rattle.spelling.proofs.piece.before.Goals as goal

pub returns : goal.returns
returns c = byte_before c.args.p c.args.b (c.args.p.start - 1) c.requires.0 refl
