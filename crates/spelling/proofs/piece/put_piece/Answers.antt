-- `spelling::piece::put_piece` meets its contract: the bytes from the start on are put. Assumes nothing.
use mathlib.Core.Path.{◌≡◌}
use native.Mathlib.Omega.{arith}
use borrow.Author.Rules.{rules}
use lib.ListN.{length}
use Rattle.spelling.proofs.Pieces.{piece_put}
use Rattle.spelling.proofs.piece.put_piece.Goals as goal

pub slice_bounds-put-end : goal.slice_bounds-put-end
slice_bounds-put-end c = let n : length c.args.p.bytes ≡ 21 = search rules in omega (arith, n, c.requires)

pub returns : goal.returns
returns c = let r = piece_put _ _ c.args.p _ (search rules) c.requires c.put.ensures in record { count = r.0; space = r.1 }
