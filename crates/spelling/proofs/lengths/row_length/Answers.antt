-- `spelling::lengths::row_length` meets its contract: the first place tells whether there are children. Assumes nothing.
use mathlib.Core.Path.{refl, ap, ◌∙◌}
use lib.ListN.{length}
use Rattle.names.specs.Table.{name_in}
use Rattle.spelling.proofs.Summing.{leaf_length, list_length_lem}
use Rattle.spelling.proofs.lengths.row_length.Goals as goal

pub returns-then-c : goal.returns-then-c
returns-then-c c =
    leaf_length (name_in c.args.names.now) _ _ _ _ _ _ _
    (c.shown_length-n.ensures ∙ ap (λ s. length (name_in c.args.names.now s)) c.symbol.ensures)
    c.place-c.ensures _ _ c.if-c.true c.scalar_at-p.ensures refl c.sum.ensures

pub returns : goal.returns
returns c =
    list_length_lem (name_in c.args.names.now) _ _ _ _ _ _ _
    (c.shown_length-n.ensures ∙ ap (λ s. length (name_in c.args.names.now s)) c.symbol.ensures)
    c.place-c.ensures c.if-c.false c.list_length.ensures
