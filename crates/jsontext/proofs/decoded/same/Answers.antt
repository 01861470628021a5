-- Where both have their quotes. Assumes nothing.
use Rattle.jsontext.proofs.Scanning.{scan_start}
use Rattle.jsontext.proofs.Comparing.{first_none, second_none}
use Rattle.jsontext.proofs.decoded.same.Goals as goal

pub returns-then-byte_at-ne34 : goal.returns-then-byte_at-ne34
returns-then-byte_at-ne34 c l = first_none c.args.text.now c.args.a _ _ c.byte_at.ensures c.if-byte_at-ne34.true

pub returns-then-byte_at-ne34-2 : goal.returns-then-byte_at-ne34-2
returns-then-byte_at-ne34-2 c l = second_none c.args.text.now _ c.args.b _ c.byte_at-2.ensures c.if-byte_at-ne34-2.true

pub same_quoted-requires : goal.same_quoted-requires
same_quoted-requires c = (scan_start _ _ _ c.byte_at.ensures c.if-byte_at-ne34.false, scan_start _ _ _ c.byte_at-2.ensures c.if-byte_at-ne34-2.false)
