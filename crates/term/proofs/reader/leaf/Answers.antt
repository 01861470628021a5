-- A scalar and the term's end, or a fault. Assumes nothing.
use mathlib.Core.Path.{refl}
use Rattle.term.proofs.Ending.{says_by}
use Rattle.term.proofs.Listing.{says_childless}
use Rattle.term.proofs.Reading.{leaf_scalar, leaf_fault}
use Rattle.model.specs.Automaton.{arity_of}
use Rattle.automaton.specs.Stored.{decode}
use Rattle.term.proofs.reader.leaf.Goals as goal

pub returns-in-Ok : goal.returns-in-Ok
returns-in-Ok c find =
    says_by _ _ _ _ (leaf_scalar (record { symbol = find; arity = arity_of (decode c.args.source.now.set.now); limit = c.args.source.now.limit }) _ _ _ _ _ c.scalar_at.ensures _ c.in-Ok.is)
    (says_childless _ _ _ _ _ _ _ _ _ _ _ c.no_children-fields.ensures c.end_term.ensures)

pub returns-in-Err : goal.returns-in-Err
returns-in-Err c find = says_by _ _ _ _ (leaf_fault (record { symbol = find; arity = arity_of (decode c.args.source.now.set.now); limit = c.args.source.now.limit }) _ _ _ _ _ c.scalar_at.ensures _ c.in-Err.is) (_, c.refused.ensures, refl, refl)
