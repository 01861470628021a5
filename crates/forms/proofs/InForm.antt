-- What it is to be in a form: the bytes are those of the automaton in that form, which has room for it. Assumes nothing.
use mathlib.Core.Path.{◌≡◌, refl, sym, ap, ◌∙◌, subst}
use mathlib.Core.Logic.{◌↔◌, ⊎_elim}
use mathlib.Core.Bool.{true, false}
use mathlib.Core.List.{List, [], ◌∷◌}
use Prim.Native.Nat.{ℕ, ◌<◌}
use native.Mathlib.Omega.{arith}
use borrow.Author.Tests.{eqb-true, eq-eqb}
use lib.ListN.{length, get_or}
use Rattle.model.specs.Automaton.{Rule}
use Rattle.automaton.specs.declared.Form.{Form}
use Rattle.automaton.specs.declared.Form.TheVariants.{Narrow, Wide, Isolating}
use Rattle.automaton.specs.Form.{tags_width, state_width, rule_numbers, rule_width, isolating?, HasRoom}
use Rattle.automaton.specs.Stored.{form_of, decode}
use Rattle.automaton.specs.Check.{check_of}
use Rattle.automaton.specs.Encode.{encode, encoded_length}
use Rattle.automaton.proofs.Parts.{below_or}
use Rattle.automaton.proofs.Widths.{Told, length_tells}
use Rattle.automaton.proofs.Sound.{sound_decode, room_own, told_own, length_own}
use Rattle.automaton.proofs.Encoded.{encode_length, isolating_room, no_rules_wide}
use Rattle.automaton.proofs.Bytes.{encode_decode}
use Rattle.forms.specs.Move.{in_form}

module _ (form : Form) (s : List ℕ) (h : check_of s ≡ 0) (e : in_form form s ≡ true) where
  pub in_form_length : encoded_length form (decode s) ≡ length s
  in_form_length = sym (eqb-true (length s) (encoded_length form (decode s)) e)

  -- a form that a header of so many rules tells is the one that is told
  pub in_form_told : Told form (length (decode s).rules) → form_of s ≡ form
  in_form_told told =
      length_tells (form_of s) form (length (decode s).arities) (length (decode s).states) (length (decode s).rules) (sound_decode s h).some_state (told_own s h) told
      (sym (length_own s h) ∙ sym in_form_length)

  told_room : Told form (length (decode s).rules) → HasRoom form (decode s)
  told_room told = subst (λ (f : Form). HasRoom f (decode s)) (in_form_told told) (room_own s h)

  told_bytes : ((k : ℕ) → get_or s k 0 < 256) → Told form (length (decode s).rules) → encode form (decode s) ≡ s
  told_bytes bytes told = subst (λ (f : Form). encode f (decode s) ≡ s) (in_form_told told) (encode_decode s h bytes)

-- The form has room for the automaton ..
pub in_form_room : (form : Form) (s : List ℕ) → check_of s ≡ 0 → in_form form s ≡ true → HasRoom form (decode s)
in_form_room Narrow s h e = told_room Narrow s h e tt
in_form_room Wide s h e = told_room Wide s h e tt
in_form_room Isolating s h e = isolating_room (decode s) (sound_decode s h)

-- .. with no rules both wide forms have the same bytes ..
pub in_both : (s : List ℕ) → (decode s).rules ≡ [] → in_form Isolating s ≡ in_form Wide s
unfolding state_width tags_width rule_width rule_numbers
in_both s e = rw e

no_rules : (rules : List Rule) → length rules < 1 → rules ≡ []
no_rules [] l = refl
no_rules (r ∷ rules) l = absurd (omega arith)

-- .. and being in a form is to be the bytes of the automaton in that form.
pub in_form_bytes : (form : Form) (s : List ℕ) → check_of s ≡ 0 → ((k : ℕ) → get_or s k 0 < 256) → (in_form form s ≡ true) ↔ (encode form (decode s) ≡ s)
in_form_bytes form s h bytes = (there form, λ e. eq-eqb (length s) (encoded_length form (decode s)) (ap length (sym e) ∙ encode_length form (decode s)))
  where
    there : (form : Form) → in_form form s ≡ true → encode form (decode s) ≡ s
    there Narrow e = told_bytes Narrow s h e bytes tt
    there Wide e = told_bytes Wide s h e bytes tt
    there Isolating e =
        ⊎_elim
        (λ l. let none = no_rules (decode s).rules l in no_rules_wide (decode s) none ∙ told_bytes Wide s h (sym (in_both s none) ∙ e) bytes tt)
        (λ l. told_bytes Isolating s h e bytes l)
        (below_or (length (decode s).rules) 1)

-- In a form without a place for masks the header tells no place for them.
pub in_plain_form : (form : Form) (s : List ℕ) → check_of s ≡ 0 → in_form form s ≡ true → isolating? form ≡ false → isolating? (form_of s) ≡ false
in_plain_form Narrow s h e p = ap isolating? (in_form_told Narrow s h e tt)
in_plain_form Wide s h e p = ap isolating? (in_form_told Wide s h e tt)
in_plain_form Isolating s h e p = let z : ◌≡◌ {A = ℕ} 0 1 = cc in absurd (omega arith)
