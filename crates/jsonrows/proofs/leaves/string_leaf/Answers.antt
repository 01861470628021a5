-- The text of a short string may be told at a glance. Else a string that is not whole is refused; the text of another is looked for, then its leaf. Assumes nothing.
use native.Mathlib.Omega.{arith}
use Rattle.jsonrows.specs.State.{built_in}
use Rattle.jsonrows.proofs.LeafWays.{text_fault, whole_string, no_string, probed_at}
use Rattle.jsonrows.proofs.TextLeaves.{known_inside, known_read}
use Rattle.jsonrows.proofs.Glancing.{told_known}
use Rattle.jsonrows.proofs.leaves.string_leaf.Goals as goal

pub row_of-row-requires : goal.row_of-row-requires
row_of-row-requires c = let r = known_inside c.requires.holds (told_known c.glance.ensures c.in-Found.is) in record { size = r.0; numbered = r.1 }

pub returns-in-Found : goal.returns-in-Found
returns-in-Found c = known_read c.requires.holds (told_known c.glance.ensures c.in-Found.is) (omega arith) _ c.row_of-row.ensures

pub text_leaf-requires : goal.text_leaf-requires
text_leaf-requires c =
    let w = whole_string c.args.source.now.text.now c.args.at (c.in-Ok.ensures c.args.source.now.lent) in
    record { holds = c.requires.holds; behind = omega (arith, w.behind); whole = probed_at _ _ w c.look_up-probed.ensures }

pub returns-in-Err : goal.returns-in-Err
returns-in-Err c = text_fault (built_in c.args.source.now.text.now c.args.tables.now.rows c.args.tables.now.starts c.args.counts.used c.args.counts.texts) (no_string c.args.source.now.text.now c.args.at (c.in-Err.ensures c.args.source.now.lent))
