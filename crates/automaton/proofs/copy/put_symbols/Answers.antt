use mathlib.Core.Path.{sym, ap, ◌∙◌}
use native.Mathlib.Nat.{one-mul}
use native.Mathlib.Omega.{arith}
use Rattle.automaton.specs.Stored.{decode}
use Rattle.automaton.proofs.Laying.{parts_none, parts_put, parts_all, parts_fit, parts_stay, put_laid}
use Rattle.automaton.specs.Encode.{encode_symbol}
use Rattle.automaton.proofs.Encoded.{symbol_width}
use Rattle.automaton.proofs.copy.put_symbols.Goals as goal

pub returns-then-not-fits : goal.returns-then-not-fits
returns-then-not-fits c = parts_stay encode_symbol 1 symbol_width (decode c.args.set.now).arities c.args.out.now c.args.at _ _ (c.from.ensures ∙ c.header-n.ensures.symbols ∙ sym (one-mul _)) c.fits.ensures c.if-not-fits.true

pub loop-f-init : goal.loop-f-init
loop-f-init c = (c.header-n.ensures.symbols, parts_none _ 0 _ _ _ (parts_fit encode_symbol 1 symbol_width (decode c.args.set.now).arities c.args.out.now c.args.at _ _ (c.from.ensures ∙ c.header-n.ensures.symbols ∙ sym (one-mul _)) c.fits.ensures c.if-not-fits.false))

pub loop-f-preserved : goal.loop-f-preserved
loop-f-preserved c = (c.loop-f.invariant.0, parts_put _ 0 _ _ _ _ _ _ c.loop-f.invariant.1 _ _ _ (omega (arith, c.loop-f.invariant.0)) (ap encode_symbol c.arity.ensures) c.put_symbol-end.ensures)

pub returns : goal.returns
returns c = put_laid _ _ _ _ _ (parts_all _ 0 _ _ _ _ _ _ c.loop-f.invariant.1 (omega (arith, c.loop-f.invariant.0)))
