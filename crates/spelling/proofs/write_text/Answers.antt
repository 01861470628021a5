-- `spelling::write_text` meets its contract: where the length fits, the last row's text is put at the front. Assumes nothing.
use native.Mathlib.Omega.{arith}
use Rattle.names.specs.Table.{name_in}
use Rattle.spelling.proofs.Texts.{some_rows, few_rows}
use Rattle.spelling.proofs.Writing.{too_long, last_inside, last_fits, last_written}
use Rattle.spelling.proofs.write_text.Goals as goal

pub overflow_sub-last : goal.overflow_sub-last
overflow_sub-last c = omega (arith, c.count-last.ensures, some_rows _ c.requires)

pub overflow_cast-last : goal.overflow_cast-last
overflow_cast-last c = omega (arith, c.count-last.ensures, few_rows _ c.requires)

pub term-requires : goal.term-requires
term-requires c = record { sound = c.requires; inside = last_inside _ c.requires _ c.count-last.ensures; fits = last_fits _ c.requires _ c.count-last.ensures (name_in c.args.names.now) c.args.text.now _ c.text_length.ensures c.if-is_none.ensures }

pub returns-then-is_none : goal.returns-then-is_none
returns-then-is_none c = too_long _ _ _ c.text_length.ensures c.if-is_none.ensures _

pub returns : goal.returns
returns c =
    last_written _ c.requires _ c.count-last.ensures (name_in c.args.names.now) c.args.text.now _
    c.text_length.ensures c.if-is_none.ensures _ _ c.term.ensures
