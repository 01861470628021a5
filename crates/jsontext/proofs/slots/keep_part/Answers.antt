-- No bytes, a few, or the words at both ends. Assumes nothing.
use native.Mathlib.Omega.{arith}
use Rattle.jsontext.proofs.Keeping.{part_length, part_bytes, part_front, part_last}
use Rattle.jsontext.proofs.slots.keep_part.Goals as goal

pub returns : goal.returns
returns c =
    λ bs v.
    c.keep.ensures bs _ v
    (part_bytes c.args.text.now _ _ c.requires.0 c.requires.1 (λ i l. omega (arith, c.shared_slice_known-1.given i)))
    (part_length c.args.text.now _ _ c.requires.0 c.requires.1)
    (part_front c.args.text.now _ _ c.requires.0 c.requires.1 c.if-n-lt-WORD.false _ c.word.ensures)
    (part_last c.args.text.now _ _ c.requires.0 c.requires.1 c.if-n-lt-WORD.false bs _ c.word-2.ensures)
