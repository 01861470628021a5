-- Each operation works on each byte apart. Assumes nothing.
use native.Mathlib.Omega.{arith}
use Rattle.jsontext.proofs.Bytewise.{marks_of, other_room}
use Rattle.jsontext.proofs.plain.marks.Goals as goal

pub overflow_add-no_quote : goal.overflow_add-no_quote
overflow_add-no_quote c = omega (arith, other_room c.args.w 2459565876494606882 (omega arith))

pub overflow_add-no_backslash : goal.overflow_add-no_backslash
overflow_add-no_backslash c = omega (arith, other_room c.args.w 6655295901103053916 (omega arith))

pub returns : goal.returns
returns c xs h v e = marks_of xs h v _ e
