-- `boolean::same_symbols` meets its contract: as many symbols, and every symbol is asked. Assumes nothing.
use mathlib.Core.Path.{sym, ◌∙◌}
use lib.ListN.{length}
use lib.Dec.{eqb}
use borrow.Author.Tests.{tests, ne_eqb}
use Rattle.std.proofs.Common.{rules}
use Rattle.model.specs.Automaton.{arity_of}
use Rattle.model.proofs.Ranges.{all_in_range}
use Rattle.automaton.specs.Stored.{decode}
use Rattle.boolean.proofs.Refusing.{symbols_apart, symbols_alike}
use Rattle.boolean.proofs.same_symbols.Goals as goal

pub returns-then-n-header : goal.returns-then-n-header
returns-then-n-header c =
    symbols_alike _ _ _ (sym c.header-n.ensures.symbols ∙ c.if-n-header.true ∙ c.header.ensures.symbols)
    (all_in_range (λ f. eqb (arity_of (decode c.args.first.now) f) (arity_of (decode c.args.second.now) f)) (length (decode c.args.first.now).arities) _ _ _ c.header-n.ensures.symbols c.all.ensures.ran (λ x b q k. search (rules, tests)))

pub returns-else-n-header : goal.returns-else-n-header
returns-else-n-header c = ne_eqb _ _ c.if-n-header.false ∙ symbols_apart _ _ (λ e. c.if-n-header.false (c.header-n.ensures.symbols ∙ e ∙ sym c.header.ensures.symbols))
