-- The name is too long, known or unknown. Assumes nothing.
use mathlib.Core.Path.{ap, ◌∙◌}
use Rattle.term.specs.State.{named_of}
use Prim.Native.Nat.{◌+◌, ◌≤◌}
use lib.ListN.{length}
use native.Mathlib.Omega.{arith}
use Rattle.names.specs.Names.{find_in}
use Rattle.names.specs.Table.{name_in}
use Rattle.term.specs.Scan.{name_bytes}
use Rattle.term.proofs.Symbols.{name_fits, name_long, symbol_found, symbol_unknown}
use Rattle.term.proofs.reader.symbol_at.Goals as goal

pub returns-then-n-gt-MAX_NAME : goal.returns-then-n-gt-MAX_NAME
returns-then-n-gt-MAX_NAME c = ap named_of c.refused.ensures ∙ name_long _ _ c.requires _ _ c.name_bytes-n.ensures c.if-n-gt-MAX_NAME.true

pub overflow_add-at : goal.overflow_add-at
overflow_add-at c = omega (arith, (let h-fits : c.args.at + name_bytes c.args.source.now.text.now c.args.at ≤ length c.args.source.now.text.now = name_fits c.args.source.now.text.now c.args.at c.requires in h-fits), c.name_bytes-n.ensures)

pub overflow_add-end : goal.overflow_add-end
overflow_add-end c = omega (arith, (let h-fits : c.args.at + name_bytes c.args.source.now.text.now c.args.at ≤ length c.args.source.now.text.now = name_fits c.args.source.now.text.now c.args.at c.requires in h-fits), c.name_bytes-n.ensures)

pub slice_bounds-find-end : goal.slice_bounds-find-end
slice_bounds-find-end c = omega (arith, (let h-fits : c.args.at + name_bytes c.args.source.now.text.now c.args.at ≤ length c.args.source.now.text.now = name_fits c.args.source.now.text.now c.args.at c.requires in h-fits), c.name_bytes-n.ensures)

pub returns-in-Some : goal.returns-in-Some
returns-in-Some c = symbol_found _ _ c.requires (find_in c.args.source.now.symbols (name_in c.args.source.now.names.now)) _ c.name_bytes-n.ensures c.if-n-gt-MAX_NAME.false _ c.find.ensures _ c.in-Some.is

pub returns-in-None : goal.returns-in-None
returns-in-None c = ap named_of c.refused-in-None.ensures ∙ symbol_unknown _ _ c.requires (find_in c.args.source.now.symbols (name_in c.args.source.now.names.now)) _ c.name_bytes-n.ensures c.if-n-gt-MAX_NAME.false _ c.find.ensures c.in-None.is
