-- What the first slot tells of the text of a short string. Assumes nothing.
use mathlib.Core.Path.{◌≡◌, refl, sym, ap, ◌∙◌, subst}
use mathlib.Core.Bool.{Bool, true}
use mathlib.Core.List.{List}
use Prim.Native.Nat.{ℕ, ◌+◌, ◌-◌, ◌%◌}
use native.Mathlib.Omega.{arith}
use lib.ListN.{get_or}
use Rattle.base.specs.Text.{got}
use Rattle.document.specs.Index.{slot_after}
use Rattle.document.specs.Fields.{as_row}
use Rattle.document.specs.declared.rows.Row as row_number
use Rattle.document.specs.declared.index.Probed.{Probed}
use Rattle.document.specs.declared.index.Probed.TheVariants.{Found, Free, Crowded}
use Rattle.document.proofs.Searching.{searched_none, searched_free, searched_known}
use Rattle.jsontext.specs.Strings.{string_at}
use Rattle.jsontext.specs.Decoded.{same_text, text_slot}
use Rattle.jsontext.specs.Scanned.{part}
use Rattle.jsontext.specs.Shorts.{ShortAt, SameBytes}
use Rattle.jsontext.proofs.Shorting.{short_string, short_again}
use Rattle.jsonrows.specs.Texts.{ProbedAt}
use Rattle.jsonrows.proofs.Finding.{eq_eq_list}

module _ (t starts found : List ℕ) (at slot end z v : ℕ) (s : ShortAt t at slot end) (ez : z ≡ slot) (ev : v ≡ get_or found (z % 2048) 0) where
  abbrev same? : ℕ → Bool
  same? k = same_text (string_at t at) (string_at t (get_or starts k 0))

  string : string_at t at ≡ got (part t (at + 1) end) (end + 1)
  string = short_string t at slot end s

  first : z % 2048 ≡ slot_after z 0
  first = let e : z ≡ z + 0 = omega arith in ap (λ k. k % 2048) e

  held : v ≡ get_or found (slot_after z 0) 0
  held = ev ∙ ap (λ k. get_or found k 0) first

  pub glance_free : v ≡ 0 → ProbedAt t starts found at (end + 1) (Free (z % 2048))
  glance_free e =
      record {
        bytes = part t (at + 1) end;
        string = string;
        answer = ap Free first ∙ searched_free found same? (text_slot (part t (at + 1) end)) 0 z v (searched_none found same? (text_slot (part t (at + 1) end))) (omega arith) (ez ∙ s.slot_is) held e;
      }

  pub glance_known : (v ≡ 0 → ⊥) → (start : ℕ) → start ≡ get_or starts (v - 1) 0 → SameBytes t at start (end + 1 - at) → ProbedAt t starts found at (end + 1) (Found (as_row (v - 1)))
  glance_known some start es same =
      let there = ap (string_at t) (sym es) ∙ short_again t at slot end start s same in
      let equal : same? (v - 1) ≡ true = (λ i. same_text (string i) (there i)) ∙ eq_eq_list (part t (at + 1) end) (part t (at + 1) end) refl in
      record {
        bytes = part t (at + 1) end;
        string = string;
        answer = searched_known found same? (text_slot (part t (at + 1) end)) 0 z v (searched_none found same? (text_slot (part t (at + 1) end))) (omega arith) (ez ∙ s.slot_is) held true some (sym equal) refl;
      }

-- where it tells, the probe answers so
module _ {t starts found : List ℕ} {at next : ℕ} {r : Probed} (tells : (r ≡ Crowded → ⊥) → ProbedAt t starts found at next r) where
  pub told_known : {k : row_number.Row} → r ≡ Found k → ProbedAt t starts found at next (Found k)
  told_known e = subst (ProbedAt t starts found at next) e (tells (λ q. cc))

  pub told_free : {i : ℕ} → r ≡ Free i → ProbedAt t starts found at next (Free i)
  told_free e = subst (ProbedAt t starts found at next) e (tells (λ q. cc))
