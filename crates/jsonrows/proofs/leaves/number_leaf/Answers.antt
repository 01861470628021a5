-- By what the number is. Assumes nothing.
use mathlib.Core.Path.{refl, sym}
use Rattle.document.specs.Scalars.{row_rate}
use Rattle.document.specs.declared.scalar.Scalar.TheVariants.{Count}
use Rattle.jsonrows.specs.State.{built_in}
use Rattle.jsonrows.proofs.Holding.{finish_answers}
use Rattle.jsonrows.proofs.LeafWays.{number_fault, number_outside, number_is, number_old, scalar_behind}
use Rattle.jsonrows.proofs.leaves.number_leaf.Goals as goal

-- the row of the words is near at hand
pub returns-in-Some : goal.returns-in-Some
returns-in-Some c =
    let is = (rw c.in-Ok-Counted-default.field-0-0-is at c.in-Ok-Counted-default.ensures) c.args.source.now.lent in
    number_is (built_in c.args.source.now.text.now c.args.tables.now.rows c.args.tables.now.starts c.args.counts.used c.args.counts.texts) _ is refl (finish_answers _ _ _ _ _ _ _ _ c.requires.holds _ (number_old _ _ (Count c.in-Ok-Counted-default.value)) _ (scalar_behind c.args.source.now.text.now c.args.at is) c.leaf-w.ensures.kept _ _ _ (c.in-Some.ensures.found _ _ _ c.leaf-w.ensures c.requires.holds.ready) refl)

pub settle-requires : goal.settle-requires
settle-requires c = record { holds = c.requires.holds; behind = scalar_behind c.args.source.now.text.now c.args.at ((rw c.in-Ok-Counted-default.field-0-0-is at c.in-Ok-Counted-default.ensures) c.args.source.now.lent) }

pub returns-in-Some-near_row : goal.returns-in-Some-near_row
returns-in-Some-near_row c =
    let is = (rw c.in-Ok-Rated-default.field-0-0-is at c.in-Ok-Rated-default.ensures) c.args.source.now.lent in
    let words = c.leaf_of-w.ensures (row_rate c.in-Ok-Rated-default.bits) (sym c.rate_payload.ensures.1) c.rate_payload.ensures.0 in
    number_is (built_in c.args.source.now.text.now c.args.tables.now.rows c.args.tables.now.starts c.args.counts.used c.args.counts.texts) _ is refl (finish_answers _ _ _ _ _ _ _ _ c.requires.holds _ (number_old _ _ (row_rate c.in-Ok-Rated-default.bits)) _ (scalar_behind c.args.source.now.text.now c.args.at is) words.kept _ _ _ (c.in-Some-near_row.ensures.found _ _ _ words c.requires.holds.ready) refl)

pub settle-requires-in-Ok-Rated-default : goal.settle-requires-in-Ok-Rated-default
settle-requires-in-Ok-Rated-default c = record { holds = c.requires.holds; behind = scalar_behind c.args.source.now.text.now c.args.at ((rw c.in-Ok-Rated-default.field-0-0-is at c.in-Ok-Rated-default.ensures) c.args.source.now.lent) }

pub returns-in-Err : goal.returns-in-Err
returns-in-Err c = number_fault _ _ (c.in-Err.ensures c.args.source.now.lent)

pub returns-in-Ok-Outside-default : goal.returns-in-Ok-Outside-default
returns-in-Ok-Outside-default c = number_outside _ _ ((rw c.in-Ok-Outside-default.field-0-0-is at c.in-Ok-Outside-default.ensures) c.args.source.now.lent)

pub returns-in_default : goal.returns-in_default
returns-in_default c =
    let is = (rw c.in-Ok-Counted-default.field-0-0-is at c.in-Ok-Counted-default.ensures) c.args.source.now.lent in
    number_is (built_in c.args.source.now.text.now c.args.tables.now.rows c.args.tables.now.starts c.args.counts.used c.args.counts.texts) _ is refl (c.settle.ensures _ c.leaf-w.ensures (number_old _ _ (Count c.in-Ok-Counted-default.value)))

pub returns-in_default-near_row : goal.returns-in_default-near_row
returns-in_default-near_row c =
    let is = (rw c.in-Ok-Rated-default.field-0-0-is at c.in-Ok-Rated-default.ensures) c.args.source.now.lent in
    let words = c.leaf_of-w.ensures (row_rate c.in-Ok-Rated-default.bits) (sym c.rate_payload.ensures.1) c.rate_payload.ensures.0 in
    number_is (built_in c.args.source.now.text.now c.args.tables.now.rows c.args.tables.now.starts c.args.counts.used c.args.counts.texts) _ is refl (c.settle-in-Ok-Rated-default.ensures _ words (number_old _ _ (row_rate c.in-Ok-Rated-default.bits)))
