-- The line that was guessed, or the key looked up. Assumes nothing.
use mathlib.Core.Path.{refl}
use native.Mathlib.Omega.{arith}
use Rattle.names.specs.Lines.{lines}
use Rattle.jsonrows.specs.KeyTable.{key_at}
use Rattle.jsonrows.proofs.Finding.{find_own}
use Rattle.jsonrows.proofs.ListedKeys.{key_of_string, listed_key_says, listed_kept, says_of_string}
use Rattle.jsonrows.proofs.members.key_at.Goals as goal

pub returns-in-Some : goal.returns-in-Some
returns-in-Some c =
    let h = c.in-Some.ensures _ refl in
    let listed = find_own (lines c.args.source.now.list.now) c.args.source.now.table.distinct c.line_of-k.result h.1 in record {
      says = λ seen marks v.
          says_of_string (key_of_string _ _ _ seen _ _ (key_at c.args.source.now.list.now c.line_of-k.result) _ h.2)
          (listed_key_says c.requires.holds (lines c.args.source.now.list.now) c.args.source.now.table.distinct _ _ _ (key_at c.args.source.now.list.now c.line_of-k.result) _ _ listed _ _ c.requires.bounds.0 (omega (arith, c.requires.bounds.1)) marks v c.listed_key.ensures.told c.listed_key.ensures.entered c.listed_key.ensures.flagged);
      kept = listed_kept c.requires.holds (lines c.args.source.now.list.now) c.args.source.now.table.distinct _ _ c.args.at (key_at c.args.source.now.list.now c.line_of-k.result) c.in-Some.next _ listed _ c.args.listed.now c.requires.bounds.0 (omega (arith, c.requires.bounds.1)) c.listed_key.ensures.entered;
    }
