-- The number's limit is a name's. Assumes nothing.
use Prim.Native.Nat.{◌^◌}
use mathlib.Core.Path.{sym, ap, ◌∙◌}
use native.Mathlib.Omega.{arith}
use borrow.Author.Rules.{rules}
use Rattle.term.specs.Answer.{number_of}
use Rattle.base.proofs.Got.{read_is}
use Rattle.term.proofs.Scalars.{NumberFrom, number_below, kind_number, kind_fault}
use Rattle.term.proofs.scan.name_number.Goals as goal

pub returns-in_err-n : goal.returns-in_err-n
returns-in_err-n c = let e = kind_fault c.number.ensures 4 _ c.in_err-n.was in search rules

pub overflow_cast-result : goal.overflow_cast-result
overflow_cast-result c = omega (arith, read_is (NumberFrom (2 ^ 32) _) _ _ (sym c.number.ensures ∙ ap number_of c.in_ok-n.was) (number_below (2 ^ 32) _ _ (omega arith)))

pub returns : goal.returns
returns c = kind_number c.number.ensures 4 _ c.in_ok-n.was
