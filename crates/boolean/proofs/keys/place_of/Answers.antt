-- `boolean::keys::place_of` meets its contract. Assumes nothing.
use borrow.Author.Tests.{lt-ltb, le-ltb}
use mathlib.Core.Path.{ap, ◌∙◌}
use Rattle.boolean.specs.Key.{digit_at, place_at}
use Rattle.boolean.proofs.keys.place_of.Goals as goal

pub returns-then-k-n : goal.returns-then-k-n
unfolding place_at
returns-then-k-n c = rw (lt-ltb _ _ c.if-k-n.true) (c.digit_at.ensures ∙ ap (digit_at c.args.x) c.saturating_sub.ensures)

pub returns-else-k-n : goal.returns-else-k-n
unfolding place_at
returns-else-k-n c = rw (le-ltb _ _ c.if-k-n.false)
