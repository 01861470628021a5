-- Cells whose hash is kept; or the front, a place and the kind. Assumes nothing.
use lib.Dec.{eqb, eqb→eq}
use Rattle.model.proofs.Members.{T_and, T_true}
use Rattle.document.proofs.Hashing.{count_middle, rate_middle, name_middle, middle_hashed}
use Rattle.document.proofs.hash.middle_hash.Goals as goal

pub returns-then-m-eq-COUNT_MIDDLE : goal.returns-then-m-eq-COUNT_MIDDLE
returns-then-m-eq-COUNT_MIDDLE c = rw (c.if-a-eq-NUMBER_FRONT.true, c.if-m-eq-COUNT_MIDDLE.true) count_middle

pub returns-then-m-eq-RATE_MIDDLE : goal.returns-then-m-eq-RATE_MIDDLE
returns-then-m-eq-RATE_MIDDLE c = rw (c.if-a-eq-NUMBER_FRONT.true, c.if-m-eq-RATE_MIDDLE.true) rate_middle

pub returns-then-a-m : goal.returns-then-a-m
returns-then-a-m c =
    let (e, f) = T_and (eqb c.args.a 18446744073709486087) (eqb c.args.m 327679) ((T_true _).1 c.if-a-m.true) in
    rw (eqb→eq c.args.a 18446744073709486087 e, eqb→eq c.args.m 327679 f) name_middle

pub returns : goal.returns
returns c = middle_hashed c.args.a c.args.m c.front_hash.result c.low_cell.result c.low_cell-2.result c.add_cell-placed.result c.add_small.result c.front_hash.ensures c.low_cell.ensures c.add_cell-placed.ensures c.low_cell-2.ensures c.add_small.ensures
