-- `classes::is_in` meets its contract: a shift is a quotient, and the entry of this table is the class's. Assumes nothing.
use mathlib.Core.Path.{ap, ◌∙◌}
use Prim.Native.Nat.{ℕ}
use lib.ListN.{get_or}
use Rattle.model.specs.Automaton.{bit?}
use Rattle.classes.proofs.Answered.{compared_in}
use Rattle.classes.proofs.is_in.Goals as goal

pub returns : goal.returns
returns c =
    let told = ap (λ (n : ℕ). bit? (get_or c.args.table.now n 0) c.args.k) c.from.ensures in
    record { told = told; compared = λ h. told ∙ compared_in _ _ _ c.ranges.b.fits h }
