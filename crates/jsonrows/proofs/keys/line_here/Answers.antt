-- A line whose end is not 0 stands between its places. Assumes nothing.
use mathlib.Core.Path.{sym, ap, ◌∙◌}
use native.Mathlib.Omega.{arith}
use Rattle.std.proofs.lemmas.Option.{same_Some}
use Rattle.base.specs.Text.{got}
use Rattle.jsontext.proofs.StringEnds.{string_ahead}
use Rattle.jsonrows.specs.KeyTable.{key_at}
use Rattle.jsonrows.proofs.Keying.{line_ended, line_string}
use Rattle.jsonrows.proofs.keys.line_here.Goals as goal

-- the place after the key stands inside the text
pub overflow_add-result-then-written : goal.overflow_add-result-then-written
overflow_add-result-then-written c =
    let a = string_ahead _ _ _ _ (c.written.ensures c.if-written.true) in
    record { fits = omega (arith, a.inside, c.well_formed.0) }

pub overflow_add-result : goal.overflow_add-result
overflow_add-result c = record { fits = omega (arith, (overflow_add-result-then-written c).fits) }

pub returns-then-written : goal.returns-then-written
returns-then-written c next e =
    let l = line_ended c.args.source.now.table _ c.if-line-eq0.false in
    (omega (arith, l, c.from.ensures), line_string _ (sym c.from.ensures) (c.args.source.now.table.stands _ l) _ (c.written.ensures c.if-written.true) ∙ ap (got (key_at c.args.source.now.list.now c.args.k)) (same_Some _ _ e))
