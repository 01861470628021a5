-- `document::fields::same_places` meets its contract: the places passed are used and the same on both sides. Assumes nothing.
use mathlib.Core.Path.{◌≡◌}
use lib.ListN.{length}
use Rattle.document.specs.Rows.{places_in}
use Rattle.document.specs.Fields.{numbers_of}
use Rattle.document.proofs.Children.{Alike}
use Rattle.document.proofs.fields.same_places.Given as goal

abbrev pub invariant-loop-k : goal.invariant-loop-k
invariant-loop-k l = (length (numbers_of l.places) ≡ 4) × Alike (numbers_of l.places) (places_in l.rows l.i.0) l.k
