-- Too deep, there before, refused with its text, or entered. Assumes nothing.
use mathlib.Core.Path.{refl, ◌∙◌}
use native.Mathlib.Omega.{arith}
use Prim.Native.Nat.{◌+◌}
use lib.Seq.{drop-set-lt}
use Rattle.std.proofs.lemmas.Result.{err_from_is_err_and}
use Rattle.jsonrows.proofs.Holding.{said, said_no}
use Rattle.jsonrows.proofs.LeafWays.{probed_at}
use Rattle.jsonrows.proofs.OtherKeys.{key_too_deep, key_again, key_refused_says, number_by, seen_by_number, key_leaf_refused, key_leaf}
use Rattle.jsonrows.proofs.members.other_key.Goals as goal

pub returns-then-level-eq0 : goal.returns-then-level-eq0
returns-then-level-eq0 c = record { says = λ keys seen key flags string unlisted marks v. key_refused_says (key_too_deep _ seen _ key _ _ unlisted _ c.if-level-eq0.true); kept = refl }

pub returns-then-has_entry : goal.returns-then-has_entry
returns-then-has_entry c =
    record {
      says = λ keys seen key flags string unlisted marks v.
          let n = number_by c.requires.holds _ key _ string c.look_up-probed.result (probed_at _ _ c.requires.whole c.look_up-probed.ensures) _ c.number_of-number.ensures in
          key_refused_says (key_again _ seen _ key _ _ unlisted _ c.if-level-eq0.false (seen_by_number c.requires.holds _ key _ string unlisted v n c.has_entry.ensures ∙ c.if-has_entry.true));
      kept = refl;
    }

pub text_leaf-requires : goal.text_leaf-requires
text_leaf-requires c = record { holds = c.requires.holds; behind = omega (arith, c.requires.whole.behind); whole = probed_at _ _ c.requires.whole c.look_up-probed.ensures }

pub returns-in_err-part : goal.returns-in_err-part
returns-in_err-part c =
    record {
      says = λ keys seen key flags string unlisted marks v.
          let n = number_by c.requires.holds _ key _ string c.look_up-probed.result (probed_at _ _ c.requires.whole c.look_up-probed.ensures) _ c.number_of-number.ensures in
          let first = seen_by_number c.requires.holds _ key _ string unlisted v n c.has_entry.ensures ∙ c.if-has_entry.false in
          let p = err_from_is_err_and c.from_residual.result c.from_residual.ensures.1 in rw (p.1, p.2) (key_leaf_refused c.requires.holds _ key _ string keys seen unlisted _ c.if-level-eq0.false first (said_no c.in_err-part.ensures refl));
      kept = refl;
    }

pub returns : goal.returns
returns c =
    record {
      says = λ keys seen key flags string unlisted marks v.
          let n = number_by c.requires.holds _ key _ string c.look_up-probed.result (probed_at _ _ c.requires.whole c.look_up-probed.ensures) _ c.number_of-number.ensures in
          let first = seen_by_number c.requires.holds _ key _ string unlisted v n c.has_entry.ensures ∙ c.if-has_entry.false in
          key_leaf c.requires.holds _ key _ string keys seen unlisted _ c.if-level-eq0.false first marks v c.requires.bounds.0 (omega (arith, c.requires.bounds.1)) (said c.in_ok-part.ensures refl) n;
      kept = drop-set-lt (c.args.level + 1) _ _ _ (omega arith);
    }
