-- No string, a listed key, or another. Assumes nothing.
use mathlib.Core.Path.{refl, sym, ap, ◌∙◌}
use native.Mathlib.Omega.{arith}
use Rattle.names.specs.Lines.{lines}
use Rattle.jsonrows.specs.KeyTable.{key_of}
use Rattle.jsonrows.proofs.LeafWays.{whole_string, no_string}
use Rattle.jsonrows.proofs.OtherKeys.{key_refused_says}
use Rattle.jsonrows.proofs.ListedKeys.{key_of_string, key_no_string, listed_key_says, listed_kept, says_of_string}
use Rattle.jsonrows.proofs.members.looked_up.Goals as goal

pub listed_key-requires : goal.listed_key-requires
listed_key-requires c = record { few = c.find_key.ensures.few _ c.in-Some.is; bounds = omega (arith, c.requires.bounds) }

pub other_key-requires : goal.other_key-requires
other_key-requires c = record { holds = c.requires.holds; bounds = c.requires.bounds; whole = whole_string c.args.source.now.text.now c.args.at (c.in-Ok.ensures c.args.source.now.lent) }

pub returns-in-Err : goal.returns-in-Err
returns-in-Err c = record { says = λ seen marks v. key_refused_says (key_no_string _ c.args.source.now.text.now _ seen _ _ _ (no_string c.args.source.now.text.now c.args.at (c.in-Err.ensures c.args.source.now.lent))); kept = refl }

pub returns-in-Some : goal.returns-in-Some
returns-in-Some c =
    let w = whole_string c.args.source.now.text.now c.args.at (c.in-Ok.ensures c.args.source.now.lent) in
    let listed = sym (c.find_key.ensures.found w.bytes _ w.string w.slot_is) ∙ ap key_of c.in-Some.is in record {
      says = λ seen marks v.
          says_of_string (key_of_string _ _ _ seen _ _ w.bytes _ w.string)
          (listed_key_says c.requires.holds (lines c.args.source.now.list.now) c.args.source.now.table.distinct _ _ _ w.bytes _ _ listed _ _ c.requires.bounds.0 (omega (arith, c.requires.bounds.1)) marks v c.listed_key.ensures.told c.listed_key.ensures.entered c.listed_key.ensures.flagged);
      kept = listed_kept c.requires.holds (lines c.args.source.now.list.now) c.args.source.now.table.distinct _ _ c.args.at w.bytes c.in-Ok.next _ listed _ c.args.listed.now c.requires.bounds.0 (omega (arith, c.requires.bounds.1)) c.listed_key.ensures.entered;
    }

pub returns-in-None : goal.returns-in-None
returns-in-None c =
    let w = whole_string c.args.source.now.text.now c.args.at (c.in-Ok.ensures c.args.source.now.lent) in
    let unlisted = sym (c.find_key.ensures.found w.bytes _ w.string w.slot_is) ∙ ap key_of c.in-None.is in
    record { says = λ seen marks v. says_of_string (key_of_string _ _ _ seen _ _ w.bytes _ w.string) (c.other_key.ensures.says (lines c.args.source.now.list.now) seen w.bytes _ w.string unlisted marks v); kept = c.other_key.ensures.kept }
