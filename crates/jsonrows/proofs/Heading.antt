-- What stands before an item's value: each way through the definitions. Assumes nothing.
use mathlib.Core.Path.{◌≡◌, refl, sym}
use mathlib.Core.Bool.{Bool, true, false}
use mathlib.Core.List.{List, [], ◌∷◌, ◌++◌}
use Rattle.std.specs.Prelude.{Result, Ok, Err}
use Prim.Native.Nat.{ℕ, ◌+◌}
use native.Mathlib.Omega.{arith}
use Rattle.base.specs.Text.{byte_at}
use Rattle.document.specs.Fields.{as_row}
use Rattle.jsontext.specs.Spaces.{space_end}
use Rattle.jsontext.proofs.Blanks.{blank_above, blank_none, blank_stop}
use Rattle.base.proofs.Bytes.{byte_inside}
use Rattle.jsonrows.specs.Signature.{item}
use Rattle.jsonrows.specs.Grammar.{Setting, Built}
use Rattle.jsonrows.specs.State.{built_in, Holds}
use Rattle.jsonrows.specs.Seen.{key_at, KeySays}
use Rattle.jsonrows.specs.Heads.{HeadSays, head_says, head_says_no}
use Rattle.base.specs.declared.refusal.Refusal.TheVariants.{JsonFault}
use Rattle.base.specs.declared.refusal.TextRefusal.{TextRefusal}
use Rattle.jsonrows.specs.declared.members.KeyPart.{KeyPart}
use Rattle.jsonrows.proofs.Walking.{elements_item, member_refused, no_colon, colon}
use Rattle.jsonrows.proofs.Growing.{as_many, key_grows}
use Rattle.jsonrows.proofs.CycleWays.{key_said, key_said_no, no_object}

-- nothing stands before an element
pub head_none : (object : Bool) → object ≡ false → (S : Setting) (t cells slots starts found pending : List ℕ) (flags : List Bool) (used texts lo hi : ℕ) (seen : List (List ℕ)) (at : ℕ) → Holds t cells slots starts found used texts S.limit
    → HeadSays object S t cells slots starts found pending flags starts texts lo hi seen at (built_in t cells starts used texts) (Ok (record { symbol = item; row = as_row 0; next = at; counts = record { used = used; texts = texts } }))
head_none true e S t cells slots starts found pending flags used texts lo hi seen at h = no_object (sym e)
head_none false e S t cells slots starts found pending flags used texts lo hi seen at h =
    head_says refl
    (record {
      seen_now = [];
      is = elements_item S t lo at (built_in t cells starts used texts);
      nothing = λ q. (refl, refl);
      known = λ q. no_object q;
      flagged = λ q. no_object q;
      holds = h;
      inside = omega arith;
      own = λ q. absurd (omega (arith, q));
      grown = let n = as_many t cells starts used texts in omega (arith, n);
      plain = λ q. omega (arith, q);
      more = omega arith;
      same = λ k l. refl;
    })

-- no space stands before a colon
pub colon_here : (t : List ℕ) (i : ℕ) → byte_at t i ≡ 58 → i ≡ space_end t i
colon_here t i e = blank_stop t i i (blank_none t i) (byte_inside t i (byte_at t i) refl (omega (arith, e))) (blank_above (byte_at t i) (omega (arith, e)))

-- a member's key was read, or not
module _ (S : Setting) {t cells slots starts found pending : List ℕ} {flags : List Bool} {old : List ℕ} {before lo hi : ℕ} {seen : List (List ℕ)} {at : ℕ} {b : Built} {r : Result KeyPart TextRefusal} (says : KeySays S.keys t cells slots starts found pending flags old before S.limit lo hi seen r (key_at S t lo seen at b)) where
  pub head_refused : (object : Bool) → object ≡ true → {w : TextRefusal} → r ≡ Err w → HeadSays object S t cells slots starts found pending flags old before lo hi seen at b (Err w)
  head_refused true e q = head_says_no refl refl (member_refused S t lo seen at b (key_said_no says q))
  head_refused false e q = no_object e

  module _ {k : KeyPart} (q : r ≡ Ok k) (i : ℕ) (ends : i ≡ space_end t k.next) where
    pub head_no_colon : (object : Bool) → object ≡ true → (byte_at t i ≡ 58 → ⊥) → HeadSays object S t cells slots starts found pending flags old before lo hi seen at b (Err (record { refusal = JsonFault; place = i }))
    head_no_colon true e n = head_says_no refl refl (no_colon S t lo seen at b (key_said says q).outcome i ends n)
    head_no_colon false e n = no_object e

    pub head_colon : (object : Bool) → object ≡ true → byte_at t i ≡ 58 → (first : ℕ) → first ≡ space_end t (i + 1) → HeadSays object S t cells slots starts found pending flags old before lo hi seen at b (Ok (record { symbol = k.symbol; row = k.row; next = first; counts = record { used = k.counts.used; texts = k.counts.texts } }))
    head_colon true e c first f =
        let s = key_said says q in
        head_says refl
        (record {
          seen_now = seen ++ s.key ∷ [];
          is = colon S t lo seen at b s.outcome k.row.0 s.before_value i first ends c f;
          nothing = λ z. no_object (sym z);
          known = λ z. s.seen_now;
          flagged = λ z. s.flagged;
          holds = s.holds;
          inside = s.inside;
          own = s.own;
          grown = let g = key_grows S t lo seen at b s.outcome in let n = as_many t cells starts k.counts.used k.counts.texts in omega (arith, g, n);
          plain = s.plain;
          more = s.more;
          same = s.same;
        })
    head_colon false e c first f = no_object e
