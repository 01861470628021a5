-- The value of a hex digit of either case, and four of them one after the other: what the loop knows at its head. Assumes nothing.
use mathlib.Core.Path.{◌≡◌, refl, sym, ap, ◌∙◌}
use mathlib.Core.Bool.{true, false, cond}
use mathlib.Core.List.{List}
use Prim.Native.Nat.{ℕ, suc, ◌+◌, ◌-◌, ◌*◌, ◌/◌, ◌%◌, ◌^◌, ◌<◌, ◌≤◌}
use native.Mathlib.Nat.{pow-le-pow_right, pow-suc}
use native.Mathlib.Numerals.{add-one}
use native.Mathlib.Omega.{arith}
use lib.ListN.{length, get_or}
use Rattle.model.specs.Lists.{tab}
use Rattle.model.proofs.Tab.{tab_at}
use Rattle.classes.specs.Classes.{digit?, either_hex_digit?}
use Rattle.base.specs.Text.{byte_at, got, fault}
use Rattle.base.proofs.Bytes.{past, class_inside}
use Rattle.jsontext.specs.Strings.{hex_value, hex_from}
use Rattle.jsontext.specs.StringAnswers.{Ahead}

-- a sum that is a hex digit's value: one computed test over every byte
abbrev digit_sum : ℕ → ℕ
digit_sum b = (b % 16 + b / 64 * 9) % 16

tried : tab 256 (λ b. cond (either_hex_digit? b) (digit_sum b) 0) ≡ tab 256 (λ b. cond (either_hex_digit? b) (hex_value b) 0)
unfolding digit? either_hex_digit? hex_value
tried = refl

pub sum_value : (b : ℕ) → b < 256 → either_hex_digit? b ≡ true → digit_sum b ≡ hex_value b
sum_value b h e =
    rw e at (sym (tab_at 0 256 (λ b. cond (either_hex_digit? b) (digit_sum b) 0) b h) ∙ ap (λ (l : List ℕ). get_or l b 0) tried ∙ tab_at 0 256 (λ b. cond (either_hex_digit? b) (hex_value b) 0) b h)

pub hex_inside : (t : List ℕ) (i : ℕ) → either_hex_digit? (byte_at t i) ≡ true → i < length t
unfolding digit? either_hex_digit?
hex_inside t i e = class_inside either_hex_digit? refl t i e

zero_no_hex : either_hex_digit? 0 ≡ false
unfolding digit? either_hex_digit?
zero_no_hex = refl

-- one hex digit
module _ (t : List ℕ) (v i n : ℕ) where
  no_hex : either_hex_digit? (byte_at t i) ≡ false → hex_from (suc n) t v i ≡ fault i
  unfolding hex_from
  no_hex e = rw (hex_from, e)

  next_hex : either_hex_digit? (byte_at t i) ≡ true → hex_from (suc n) t v i ≡ hex_from n t (v * 16 + hex_value (byte_at t i)) (i + 1)
  unfolding hex_from
  next_hex e = rw (hex_from, e)

-- n digits were read from place `at` on and v came of them; where the table lent is right they are the definition's
pub record Hex (lent : Type 0) (t : List ℕ) (at v n i : ℕ) : Type 0 where
  pub few : n ≤ 4
  pub small : v < 16 ^ n
  pub place : i ≡ at + n
  pub inside : i ≤ length t
  pub same : lent → hex_from (4 - n) t v i ≡ hex_from 4 t 0 at

module _ (lent : Type 0) (t : List ℕ) (at : ℕ) where
  pub hex_none : at ≤ length t → Hex lent t at 0 0 at
  hex_none h = record { few = omega arith; small = omega arith; place = omega arith; inside = h; same = λ _. refl }

  module _ (v n i : ℕ) (h : Hex lent t at v n i) where
    pub hex_end : 4 ≤ n → lent → got v i ≡ hex_from 4 t 0 at
    unfolding hex_from
    hex_end l x = let z : 4 - n ≡ 0 = omega (arith, h.few) in rw z at (h.same x)

    pub hex_ahead : 4 ≤ n → Ahead t (at + 4) i
    hex_ahead l = record { forward = omega (arith, h.place); inside = h.inside }

    module _ (some : n < 4) where
      at_hex : lent → hex_from (suc (4 - (n + 1))) t v i ≡ hex_from 4 t 0 at
      at_hex x = let e : 4 - n ≡ suc (4 - (n + 1)) = omega arith in rw e at (h.same x)

      -- room for one more
      pub hex_room : v < 4096
      hex_room = let k : 16 ^ n ≤ 16 ^ 3 = pow-le-pow_right {n = 16} (omega arith) {i = n} {j = 3} (omega arith) in omega (arith, h.small)

      pub hex_stop : either_hex_digit? (byte_at t i) ≡ false → lent → fault i ≡ hex_from 4 t 0 at
      hex_stop e x = sym (no_hex t v i _ e) ∙ at_hex x

      pub hex_past : length t ≤ i → lent → fault i ≡ hex_from 4 t 0 at
      hex_past l = hex_stop (ap either_hex_digit? (sym (past t i l)) ∙ zero_no_hex)

      pub hex_more : (d : ℕ) → i < length t → d < 16 → (lent → either_hex_digit? (byte_at t i) ≡ true) → (lent → d ≡ hex_value (byte_at t i)) → Hex lent t at (v * 16 + d) (n + 1) (i + 1)
      hex_more d l s e q =
          let p : 16 ^ (n + 1) ≡ 16 ^ n * 16 = rw add-one (pow-suc 16 n) in
          record {
            few = omega arith;
            small = omega (arith, h.small);
            place = omega (arith, h.place);
            inside = omega arith;
            same = λ x. rw (q x) (sym (next_hex t v i _ (e x)) ∙ at_hex x);
          }
