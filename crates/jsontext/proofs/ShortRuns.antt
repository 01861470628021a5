-- Digits that fit into 64 bits, digit by digit, and the numbers that have no others. Assumes nothing.
use mathlib.Core.Path.{◌≡◌, refl, sym, ap, ap₂, ◌∙◌, subst}
use mathlib.Core.Bool.{Bool, true, false, ◌&&◌, ◌||◌}
use mathlib.Core.Logic.{◌⊎◌, inl, inr}
use mathlib.Core.List.{List}
use mathlib.Core.Option.{Option, some}
use Rattle.std.specs.Prelude.{Some}
use Prim.Native.Nat.{ℕ, suc, ◌+◌, ◌-◌, ◌*◌, ◌^◌, ◌<◌, ◌≤◌}
use native.Mathlib.Nat.{eq-or-lt_of_le}
use native.Mathlib.Omega.{arith}
use borrow.Author.Tests.{eqb-true, eqb-false, eq-eqb, ltb-false, lt-ltb}
use lib.Dec.{eqb, ltb}
use lib.ListN.{length}
use Rattle.base.specs.Text.{byte_at, got}
use Rattle.classes.specs.Classes.{digit?}
use Rattle.classes.proofs.Ranges.{digit_range}
use Rattle.document.specs.declared.scalar.Scalar.{Scalar}
use Rattle.document.specs.declared.scalar.Scalar.TheVariants.{Count}
use Rattle.jsontext.specs.Number.{digits_of, no_digits, with_digit, digits_from, some_digits, whole_at, exponent_at, plain_number, after_fraction, fraction_at, after_whole, number_at, as_scalar}
use Rattle.jsontext.specs.NumberAnswer.{Short, carried, Within, Summed, FewRead, ShortWhole, Begins}
use Rattle.jsontext.specs.declared.digits.ShortRun.{ShortRun}
use Rattle.jsontext.proofs.Places.{neither}
use Rattle.jsontext.proofs.DigitRuns.{short_up, short_more, no_digit, next_digit}
use Rattle.jsontext.proofs.NumberScalars.{as_count}
use Rattle.jsontext.proofs.NumberWays.{some_digits_lem, whole_digits, whole_zero, exponent_none, fraction_none, fraction_there, number_plain}

-- ---- what the tests say
pub strictly_between : (a b n : ℕ) → (eqb n a || eqb n b) ≡ false → a ≤ n → n ≤ b → (a < n) × (n < b)
strictly_between a b n e h k =
    let (p, q) = neither (eqb n a) (eqb n b) e in
    let y = eqb-false n a p in
    let z = eqb-false n b q in
    (omega (arith, y), omega (arith, z))

zero_alone : (b i n : ℕ) → (eqb b 48 && ltb i n) ≡ false → i ≤ n → b ≡ 48 → n ≡ i
zero_alone b i n e h z = let l = ltb-false i n (rw (eq-eqb b 48 z) at e) in omega (arith, l)

-- ---- the loop
nothing : (n at : ℕ) → n ≡ n + (at - at)
nothing n at = omega arith

longer : (n at i : ℕ) → at ≤ i → n + (i - at) + 1 ≡ n + (i + 1 - at)
longer n at i h = omega arith

module _ (before at last : ℕ) where
  module _ (v i : ℕ) (w : Within before at last v i) (more : i < last) where
    -- of at most 18 digits there is room for one more
    pub within_room : (n : ℕ) → Short before n → n + last ≤ at + 19 → Short v 18
    within_room n s h = short_up v (n + (i - at)) (w.short n s) 18 (omega (arith, w.forward))

    pub within_more : (x : ℕ) → x ≤ 15 → Within before at last (v * 10 + x) (i + 1)
    within_more x few =
        record {
          forward = omega (arith, w.forward);
          inside = omega arith;
          short = λ n s. subst (Short (v * 10 + x)) (longer n at i w.forward) (short_more v (n + (i - at)) (w.short n s) x few);
        }

module _ (t : List ℕ) (before at : ℕ) where
  pub summed_none : Summed t before at before at
  summed_none =
      record {
        first = λ h. absurd (omega arith);
        same = λ n. ap (λ (k : ℕ). digits_from (length t - at) t (digits_of before k) at) (sym (nothing n at));
      }

  module _ (v i : ℕ) (forward : at ≤ i) (s : Summed t before at v i) where
    pub summed_more : i < length t → digit? (byte_at t i) ≡ true → (x : ℕ) → x ≡ byte_at t i - 48 → Summed t before at (v * 10 + x) (i + 1)
    summed_more l e x is =
        record {
          first = λ _. go (eq-or-lt_of_le forward);
          same = λ n.
              ap₂ (λ (w k : ℕ). digits_from (length t - (i + 1)) t (digits_of w k) (i + 1)) (ap (λ (y : ℕ). v * 10 + y) is) (sym (longer n at i forward))
              ∙ sym (next_digit t (digits_of v (n + (i - at))) i (length t - (i + 1)) e)
              ∙ ap (λ (k : ℕ). digits_from k t (digits_of v (n + (i - at))) i) left
              ∙ s.same n;
        }
      where
        go : (at ≡ i) ⊎ (at < i) → digit? (byte_at t at) ≡ true
        go (inl q) = ap (λ (k : ℕ). digit? (byte_at t k)) q ∙ e
        go (inr q) = s.first q

        left : suc (length t - (i + 1)) ≡ length t - i
        left = omega arith

-- ---- digits that end before the last place are all of them
module _ (t : List ℕ) (before at last : ℕ) (r : ShortRun) (x : FewRead t before at last r) (l : last ≤ length t) (e : r.end < last) where
  few_all : (n : ℕ) → digits_from (length t - at) t (digits_of before n) at ≡ got (digits_of r.value (n + (r.end - at))) r.end
  few_all n =
      let d = digits_of r.value (n + (r.end - at)) in
      let z : length t - r.end ≡ suc (length t - (r.end + 1)) = omega arith in
      sym (x.summed.same n) ∙ ap (λ (k : ℕ). digits_from k t d r.end) z ∙ no_digit t d r.end (length t - (r.end + 1)) (x.stops e)

-- as they are carried
pub carried_short : (v n : ℕ) → Short v n → n ≤ 18 → record { value = Some v; count = n } ≡ carried (digits_of v n)
carried_short v n h l =
    let s = short_up v n h 18 l in
    rw (lt-ltb v (2 ^ 64) (omega arith))

-- ---- a number that begins with them
pub whole_placed : (t : List ℕ) (at : ℕ) (r : ShortRun) → Within 0 at (at + 19) r.value r.end → at + 19 ≤ length t → (eqb r.end at || eqb r.end (at + 19)) ≡ false → ShortWhole t at r
whole_placed t at r w l e =
    let (s, k) = strictly_between at (at + 19) r.end e w.forward w.inside in
    let z : 0 + (r.end - at) ≡ r.end - at = omega arith in
    record { some = s; early = k; inside = l; short = subst (Short r.value) z (w.short 0 (omega arith)) }

module _ (t : List ℕ) (at : ℕ) (r : ShortRun) (p : ShortWhole t at r) where
  module _ (x : FewRead t 0 at (at + 19) r) where
    here : digit? (byte_at t at) ≡ true
    here = x.summed.first p.some

    whole_is : (byte_at t at ≡ 48 → r.end ≡ at + 1) → whole_at t at ≡ digits_from (length t - at) t no_digits at
    whole_is alone = go (eqb (byte_at t at) 48) refl
      where
        go : (b : Bool) → eqb (byte_at t at) 48 ≡ b → whole_at t at ≡ digits_from (length t - at) t no_digits at
        go true q =
            let z = eqb-true (byte_at t at) 48 q in
            let n : digit? (byte_at t (at + 1)) ≡ false = ap (λ (k : ℕ). digit? (byte_at t k)) (sym (alone z)) ∙ x.stops p.early in
            let a : length t - at ≡ suc (suc (length t - (at + 2))) = omega (arith, p.inside) in
            sym (whole_zero t at (byte_at t at) refl z n)
            ∙ ap (λ (k : ℕ). got (with_digit no_digits k) (at + 1)) (sym z)
            ∙ sym (no_digit t (with_digit no_digits (byte_at t at)) (at + 1) (length t - (at + 2)) n)
            ∙ sym (next_digit t no_digits at (suc (length t - (at + 2))) here)
            ∙ ap (λ (k : ℕ). digits_from k t no_digits at) (sym a)
        go false q = sym (some_digits_lem t no_digits at here ∙ whole_digits t at (byte_at t at) refl (eqb-false (byte_at t at) 48 q))

    pub whole_begins : (eqb (byte_at t at) 48 && ltb (at + 1) r.end) ≡ false → Begins t at r
    whole_begins f =
        let d = digit_range (byte_at t at) here in
        let z : 0 + (r.end - at) ≡ r.end - at = omega arith in
        let alone = zero_alone (byte_at t at) (at + 1) r.end f (omega (arith, p.some)) in
        number_plain t at (byte_at t at) refl (λ q. omega (arith, q, d))
        ∙ ap (after_whole t false) (whole_is alone ∙ few_all t 0 at (at + 19) r x p.inside p.early 0)
        ∙ ap (λ (k : ℕ). fraction_at t false (digits_of r.value k) r.end) z

  whole_carried : record { value = Some r.value; count = r.end - at } ≡ carried (digits_of r.value (r.end - at))
  whole_carried = carried_short r.value (r.end - at) p.short (omega (arith, p.early))

  module _ (is : Begins t at r) where
    -- with no point behind it
    whole_number : (byte_at t r.end ≡ 46 → ⊥) → as_scalar (exponent_at t (plain_number false (digits_of r.value (r.end - at)) 0 false) r.end) ≡ as_scalar (number_at t at)
    whole_number n = ap as_scalar (sym (is ∙ fraction_none t r.end (byte_at t r.end) refl false _ n))

    -- nor an exponent
    pub whole_count : (byte_at t r.end ≡ 46 → ⊥) → (eqb (byte_at t r.end) 101 || eqb (byte_at t r.end) 69) ≡ false → as_scalar (number_at t at) ≡ got (some (Count r.value)) r.end
    whole_count point letter =
        let b = byte_at t r.end in
        let d = digits_of r.value (r.end - at) in
        sym (whole_number point)
        ∙ ap as_scalar (exponent_none t r.end b refl (plain_number false d 0 false) letter)
        ∙ sym (ap (λ (o : Option Scalar). got o r.end) (as_count false false 0 (record { value = Some r.value; count = r.end - at }) d whole_carried r.value refl refl))

-- ---- the digits behind the point
module _ (t : List ℕ) (at : ℕ) (whole : ShortRun) (p : ShortWhole t at whole) (r : ShortRun) (some : whole.end + 1 < r.end) where
  in_all : whole.end - at + (r.end - (whole.end + 1)) ≡ r.end - at - 1
  in_all = omega (arith, p.some)

  pub fraction_short : Within whole.value (whole.end + 1) (at + 19) r.value r.end → Short r.value (r.end - at - 1)
  fraction_short w = subst (Short r.value) in_all (w.short (whole.end - at) p.short)

  pub fraction_is : FewRead t whole.value (whole.end + 1) (at + 19) r → r.end < at + 19 → Begins t at whole → byte_at t whole.end ≡ 46
      → as_scalar (exponent_at t (plain_number false (digits_of r.value (r.end - at - 1)) (r.end - (whole.end + 1)) true) r.end) ≡ as_scalar (number_at t at)
  fraction_is x e is point =
      let d = digits_of whole.value (whole.end - at) in
      let c : r.end - at - 1 - (whole.end - at) ≡ r.end - (whole.end + 1) = omega (arith, p.some) in
      let a : some_digits t d (whole.end + 1) ≡ got (digits_of r.value (r.end - at - 1)) r.end =
      sym (some_digits_lem t d (whole.end + 1) (x.summed.first some))
      ∙ few_all t whole.value (whole.end + 1) (at + 19) r x p.inside e (whole.end - at)
      ∙ ap (λ (k : ℕ). got (digits_of r.value k) r.end) in_all in
      ap (λ (k : ℕ). as_scalar (exponent_at t (plain_number false (digits_of r.value (r.end - at - 1)) k true) r.end)) (sym c)
      ∙ ap as_scalar (sym (is ∙ fraction_there t whole.end (byte_at t whole.end) refl false d point ∙ ap (after_fraction t false d) a))
