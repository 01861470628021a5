-- The places are those of the line. Assumes nothing.
use mathlib.Core.Path.{sym, ap, subst, ◌∙◌}
use Rattle.jsonrows.specs.KeyTable.{key_at, Stands}
use Rattle.jsonrows.proofs.keys.key_line.Goals as goal

pub returns : goal.returns
returns c =
    let x = subst (Stands _ _) (sym c.from-i.ensures) c.requires.placed in
    x.line ∙ ap (key_at _) c.from-i.ensures
