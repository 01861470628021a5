-- The words of both places are the same, so their bytes are. Assumes nothing.
use Prim.Native.Nat.{◌+◌, ◌<◌, ◌≤◌}
use borrow.Author.Tests.{eqb-true}
use native.Mathlib.Omega.{arith}
use lib.ListN.{length}
use Rattle.jsontext.proofs.Places.{both}
use Rattle.jsontext.proofs.Shorting.{both_inside, same_few, same_many}
use Rattle.jsontext.proofs.shorts.same_bytes.Goals as goal

pub returns-then-n-lt-WORD : goal.returns-then-n-lt-WORD
returns-then-n-lt-WORD c e =
    let r = (let h-room : (c.args.i + 16 ≤ length c.args.text.now) × (c.args.j + 16 ≤ length c.args.text.now) × (0 < c.args.n) × (c.args.n ≤ 16) = both_inside _ _ _ _ c.if-text-lt-LONGEST.false c.if-i-last.false in h-room) in
    same_few _ (λ i l. omega (arith, c.shared_slice_known-1.given i)) _ _ _ r.0 r.1 _ _ c.word.ensures c.word-then-n-lt-WORD.ensures c.if-n-lt-WORD.true (eqb-true _ _ e)

pub returns : goal.returns
returns c e =
    let (f, g) = both _ _ e in
    let r = (let h-room : (c.args.i + 16 ≤ length c.args.text.now) × (c.args.j + 16 ≤ length c.args.text.now) × (0 < c.args.n) × (c.args.n ≤ 16) = both_inside _ _ _ _ c.if-text-lt-LONGEST.false c.if-i-last.false in h-room) in
    same_many _ (λ i l. omega (arith, c.shared_slice_known-1.given i)) _ _ _ r.0 r.1 _ _ c.word-2.ensures c.word-3.ensures _ _ c.if-n-lt-WORD.false r.3 (eqb-true _ _ f) c.word-4.ensures c.word-5.ensures (eqb-true _ _ g)
