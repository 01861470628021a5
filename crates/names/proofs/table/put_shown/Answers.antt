-- A number below 100 has the digits that the two divisions give. Assumes nothing.
use mathlib.Core.Path.{◌∙◌}
use mathlib.Core.List.{[], ◌∷◌}
use native.Mathlib.Omega.{arith}
use Rattle.names.proofs.Cells.{number_put, one_digit, two_digits}
use Rattle.names.proofs.table.put_shown.Goals as goal

pub returns-then-i-lt10 : goal.returns-then-i-lt10
returns-then-i-lt10 c =
    number_put c.args.t.now _ c.args.part.now _ c.args.i (115 ∷ c.digit.result ∷ []) (omega arith)
    (one_digit _ c.if-i-lt10.true ∙ cc) c.put_cell-then-i-lt10.ensures

pub returns : goal.returns
returns c =
    number_put c.args.t.now _ c.args.part.now _ c.args.i (115 ∷ c.digit-2.result ∷ c.digit-3.result ∷ []) (omega arith)
    (two_digits _ c.if-i-lt10.false (omega (arith, c.requires)) ∙ cc) c.put_cell-2.ensures
