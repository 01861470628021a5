use Prim.Native.Nat.{◌+◌}
use borrow.Author.Rules.{rules}
use mathlib.Core.Path.{◌∙◌, ap}
use lib.ListN.{get_or}
use Rattle.model.specs.Limits.{unused}
use Rattle.model.specs.Lists.{tab}
use Rattle.document.specs.Rows.{used}
use Rattle.document.specs.Fields.{numbers_of}
use Rattle.document.proofs.Numbers.{number_at, numbers_length, numbers_set, rows_of}
use Rattle.document.proofs.Children.{settled_next, settled_all}
use Rattle.document.proofs.fields.settled.Goals as goal

pub loop-k-preserved : goal.loop-k-preserved
loop-k-preserved c = (
  c.loop-k.invariant.0,
  rw (numbers_set c.loop-k.p (c.loop-k.k + 1) c.place_after.result) (settled_next (numbers_of c.args.places) (numbers_of c.loop-k.p) c.loop-k.k c.place_after.result.0 c.loop-k.invariant.1 (rw (numbers_length c.args.places 4 c.loop-k.invariant.0) (search rules)) (rw (← number_at c.loop-k.p c.loop-k.k, ← number_at c.loop-k.p (c.loop-k.k + 1)) c.place_after.ensures)),
)

pub returns : goal.returns
returns c =
    let four = numbers_length c.args.places 4 c.loop-k.invariant.0 in
    rows_of c.loop-k.p (tab 4 (λ j. get_or (used (numbers_of c.args.places)) j unused))
    (settled_all (numbers_of c.args.places) (numbers_of c.loop-k.p) c.loop-k.k c.loop-k.invariant.1 (rw four (search rules)) ∙ ap (λ n. tab n (λ j. get_or (used (numbers_of c.args.places)) j unused)) four)
