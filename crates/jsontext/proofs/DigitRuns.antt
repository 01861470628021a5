-- Digits as they are carried, digit by digit: what the loop knows at its head. Assumes nothing.
use mathlib.Core.Path.{◌≡◌, refl, sym, ap, ◌∙◌, subst}
use mathlib.Core.Bool.{Bool, true, false, cond}
use mathlib.Core.List.{List}
use Prim.Native.Nat.{ℕ, suc, ◌+◌, ◌-◌, ◌*◌, ◌/◌, ◌^◌, ◌<◌, ◌≤◌}
use native.Mathlib.Omega.{arith}
use borrow.Author.Tests.{lt-ltb, le-ltb, ltb-true, ltb-false}
use lib.Dec.{ltb}
use lib.ListN.{length}
use Rattle.base.specs.Text.{byte_at, got}
use Rattle.base.proofs.Tenths.{tenth_fits, tenth_past}
use Rattle.classes.specs.Classes.{digit?}
use Rattle.jsontext.specs.Number.{Digits, with_digit, digits_from}
use Rattle.jsontext.specs.NumberAnswer.{Short, ShortRead, carried, carried_at, Bounded}
use Rattle.jsontext.proofs.Rates.{power_more, power_below}
use Rattle.jsontext.specs.declared.number.DigitRun.{DigitRun}
use Rattle.std.specs.Prelude.{Option, Some, None, Ok, unwrap_or}

-- a run of digits with these fields
abbrev run : Option ℕ → ℕ → DigitRun
run v n = record { value = v; count = n }

same_run : {v w : Option ℕ} {m n : ℕ} → v ≡ w → m ≡ n → run v m ≡ run w n
same_run p r = λ j. run (p j) (r j)

-- what is carried of a value that fits, and of one that does not
carried_fits : (d : Digits) → d.value < 2 ^ 64 → Some d.value ≡ (carried d).value
carried_fits d h = rw (lt-ltb d.value (2 ^ 64) h)

carried_none : (d : Digits) → 2 ^ 64 ≤ d.value → None ≡ (carried d).value
carried_none d h = rw (le-ltb d.value (2 ^ 64) h)

pub value_fits : (r : DigitRun) (v : ℕ) → r.value ≡ Some v → (d : Digits) → r ≡ carried d → (v ≡ d.value) × (v < 2 ^ 64)
value_fits r v e d held = go (ltb d.value (2 ^ 64)) refl (sym (ap (λ (s : DigitRun). s.value) held) ∙ e)
  where
    go : (b : Bool) → ltb d.value (2 ^ 64) ≡ b → cond b (Some d.value) None ≡ Some v → (v ≡ d.value) × (v < 2 ^ 64)
    go true q z = let y : v ≡ d.value = cc in let l = ltb-true d.value (2 ^ 64) q in (y, omega arith)
    go false q z = let y : ◌≡◌ {A = ℕ} 0 1 = cc in absurd (omega arith)

pub value_past : (r : DigitRun) → r.value ≡ None → (d : Digits) → r ≡ carried d → 2 ^ 64 ≤ d.value
value_past r e d held = go (ltb d.value (2 ^ 64)) refl (sym (ap (λ (s : DigitRun). s.value) held) ∙ e)
  where
    go : (b : Bool) → ltb d.value (2 ^ 64) ≡ b → cond b (Some d.value) None ≡ None → 2 ^ 64 ≤ d.value
    go true q z = let y : ◌≡◌ {A = ℕ} 0 1 = cc in absurd (omega arith)
    go false q z = ltb-false d.value (2 ^ 64) q

-- a digit more, of value x
module _ (r : DigitRun) (b x : ℕ) (value : x ≡ b - 48) (d : Digits) (held : r ≡ carried d) where
  count_more : r.count + 1 ≡ d.count + 1
  count_more = ap (λ (s : DigitRun). s.count + 1) held

  module _ (v : ℕ) (is : r.value ≡ Some v) where
    pub carry_past : (2 ^ 64 - 1 - x) / 10 < v → run None (r.count + 1) ≡ carried (with_digit d b)
    carry_past h =
        let k : 2 ^ 64 - 1 < v * 10 + x = tenth_past _ _ _ h in
        let f = value_fits r v is d held in
        same_run (carried_none (with_digit d b) (omega (arith, f.0))) count_more

    pub carry_fits : x ≤ 15 → v ≤ (2 ^ 64 - 1 - x) / 10 → run (Some (v * 10 + x)) (r.count + 1) ≡ carried (with_digit d b)
    carry_fits s h =
        let k : v * 10 + x ≤ 2 ^ 64 - 1 = tenth_fits _ _ _ (omega arith) h in
        let f = value_fits r v is d held in
        let l : v * 10 + x ≡ d.value * 10 + (b - 48) = omega (arith, f.0) in
        same_run (ap Some l ∙ carried_fits (with_digit d b) (omega arith)) count_more

-- a value that is no longer than its digits stays so, and so does 2^64 - 1 where it stands for a larger one
module _ (v n : ℕ) (short : Short v n) where
  pub short_up : (k : ℕ) → n ≤ k → Short v k
  short_up k l = let p = power_below n k l in omega arith

  module _ (x : ℕ) (few : x ≤ 15) where
    pub short_more : Short (v * 10 + x) (n + 1)
    short_more = let p = power_more n in omega arith

-- what is known of a value that is carried, and of one that is not
pub short_some : (r : DigitRun) (v : ℕ) → r.value ≡ Some v → ShortRead r → Short v r.count
short_some r v e h = subst (λ (o : Option ℕ). Short (unwrap_or o (2 ^ 64 - 1)) r.count) e h.short

pub short_none : (r : DigitRun) → r.value ≡ None → ShortRead r → Short (2 ^ 64 - 1) r.count
short_none r e h = subst (λ (o : Option ℕ). Short (unwrap_or o (2 ^ 64 - 1)) r.count) e h.short

-- one digit
module _ (t : List ℕ) (d : Digits) (i n : ℕ) where
  pub no_digit : digit? (byte_at t i) ≡ false → digits_from (suc n) t d i ≡ got d i
  unfolding digits_from
  no_digit e = rw (digits_from, e)

  pub next_digit : digit? (byte_at t i) ≡ true → digits_from (suc n) t d i ≡ digits_from n t (with_digit d (byte_at t i)) (i + 1)
  unfolding digits_from
  next_digit e = rw (digits_from, e)

-- the digits d from place `at` on come to what they come to from place i on, where r is carried
pub record Left (t : List ℕ) (d : Digits) (at : ℕ) (r : DigitRun) (i : ℕ) : Type 0 where
  pub so_far : Digits
  pub held : r ≡ carried so_far
  pub same : digits_from (length t - i) t so_far i ≡ digits_from (length t - at) t d at

-- r is carried at place i, after the digits `before` were at place `at`; where the table lent is right its digits are the definition's
pub record Scanned (lent : Type 0) (t : List ℕ) (before : DigitRun) (at : ℕ) (r : DigitRun) (i : ℕ) : Type 0 where
  pub bounded : Bounded r i
  pub more : before.count ≤ r.count
  pub left : lent → (d : Digits) → before ≡ carried d → Left t d at r i

module _ (lent : Type 0) (t : List ℕ) (before : DigitRun) (at : ℕ) where
  module _ (r : DigitRun) (i : ℕ) (v : Scanned lent t before at r i) where
    -- what is answered there
    answered : lent → (d : Digits) → before ≡ carried d → ((e : Digits) → digits_from (length t - i) t e i ≡ got e i) → Ok (r, i) ≡ carried_at (digits_from (length t - at) t d at)
    answered x d b ends =
        let l = v.left x d b in
        ap (λ (s : DigitRun). Ok (s, i)) l.held ∙ ap carried_at (sym (ends l.so_far) ∙ l.same)

    pub scanned_end : length t ≤ i → lent → (d : Digits) → before ≡ carried d → Ok (r, i) ≡ carried_at (digits_from (length t - at) t d at)
    unfolding digits_from
    scanned_end h x d b = let z : length t - i ≡ 0 = omega arith in answered x d b (λ e. rw z)

    module _ (inside : i < length t) where
      one_left : length t - i ≡ suc (length t - (i + 1))
      one_left = omega arith

      pub scanned_stop : digit? (byte_at t i) ≡ false → lent → (d : Digits) → before ≡ carried d → Ok (r, i) ≡ carried_at (digits_from (length t - at) t d at)
      scanned_stop e x d b = answered x d b (λ s. ap (λ (n : ℕ). digits_from n t s i) one_left ∙ no_digit t s i _ e)

      pub scanned_more : (lent → digit? (byte_at t i) ≡ true) → (s : DigitRun) → s.count ≡ r.count + 1 → ShortRead s
          → (digit? (byte_at t i) ≡ true → (d : Digits) → r ≡ carried d → s ≡ carried (with_digit d (byte_at t i))) → Scanned lent t before at s (i + 1)
      scanned_more e s n short more =
          record {
            bounded = record { short = short; few = omega (arith, v.bounded.few) };
            more = omega (arith, v.more);
            left = λ x d b.
                let l = v.left x d b in
                record {
                  so_far = with_digit l.so_far (byte_at t i);
                  held = more (e x) l.so_far l.held;
                  same = sym (next_digit t l.so_far i _ (e x)) ∙ ap (λ (n : ℕ). digits_from n t l.so_far i) (sym one_left) ∙ l.same;
                };
          }
