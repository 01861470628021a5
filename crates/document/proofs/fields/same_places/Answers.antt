use borrow.Author.Rules.{rules}
use Rattle.document.specs.Rows.{places_in}
use Rattle.document.specs.Fields.{numbers_of}
use Rattle.document.specs.Check.{place_in}
use Rattle.document.proofs.Numbers.{number_at}
use Rattle.document.proofs.Children.{alike_not, alike_end, alike_more}
use Rattle.document.proofs.fields.same_places.Goals as goal

pub returns-then-x-y : goal.returns-then-x-y
unfolding place_in
returns-then-x-y c = alike_not (numbers_of c.args.places) (places_in c.args.rows.now c.args.i.0) c.loop-k.k _ _ c.loop-k.invariant.1 (rw c.loop-k.invariant.0 (search rules)) (number_at c.args.places c.loop-k.k) c.place-y.ensures c.if-x-y.true

pub returns-then-x : goal.returns-then-x
unfolding place_in
returns-then-x c = alike_end (numbers_of c.args.places) (places_in c.args.rows.now c.args.i.0) c.loop-k.k _ _ c.loop-k.invariant.1 (rw c.loop-k.invariant.0 (search rules)) (number_at c.args.places c.loop-k.k) c.place-y.ensures c.if-x-y.false c.if-x.true

pub loop-k-preserved : goal.loop-k-preserved
unfolding place_in
loop-k-preserved c = (
  c.loop-k.invariant.0,
  alike_more (numbers_of c.args.places) (places_in c.args.rows.now c.args.i.0) c.loop-k.k _ _ c.loop-k.invariant.1 (rw c.loop-k.invariant.0 (search rules)) (number_at c.args.places c.loop-k.k) c.place-y.ensures c.if-x-y.false c.if-x.false,
)
