-- All of the one stand for themselves, and are those of the other. Assumes nothing.
use mathlib.Core.Path.{sym, ◌∙◌}
use lib.Pointwise.{bytes_decides}
use Rattle.jsontext.proofs.Agreeing.{alike_parts}
use Rattle.jsontext.proofs.written.same_bytes.Goals as goal

pub returns-then-are_plain : goal.returns-then-are_plain
returns-then-are_plain c e = alike_parts _ _ _ _ _ c.requires.first c.requires.second (c.are_plain.ensures.plain c.if-are_plain.true) ((bytes_decides _ _).0 (sym c.eq.ensures ∙ e))
