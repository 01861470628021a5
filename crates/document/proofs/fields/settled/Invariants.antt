-- `document::fields::settled` meets its contract: each place is settled by the one before it. Assumes nothing.
use mathlib.Core.Path.{◌≡◌}
use lib.ListN.{length}
use Rattle.document.specs.Fields.{numbers_of}
use Rattle.document.proofs.Children.{Settled}
use Rattle.document.proofs.fields.settled.Given as goal

abbrev pub invariant-loop-k : goal.invariant-loop-k
invariant-loop-k l = (length l.initial.p ≡ 4) × Settled (numbers_of l.initial.p) (numbers_of l.p) l.k
