-- A number that is read is one by its production, and one by its production that nothing could make longer is read. Assumes nothing.
use mathlib.Core.Path.{◌≡◌, refl, sym, ap, ◌∙◌}
use mathlib.Core.Bool.{Bool, true, false, ◌||◌, cond}
use mathlib.Core.List.{List}
use Prim.Native.Nat.{ℕ, zero, suc, ◌+◌, ◌-◌, ◌<◌, ◌≤◌}
use native.Mathlib.Omega.{arith}
use borrow.Author.Tests.{eq-eqb, ne_eqb, eqb-true, eqb-false}
use lib.Dec.{eqb}
use lib.ListN.{length}
use Rattle.classes.specs.Classes.{digit?}
use Rattle.base.specs.Text.{byte_at, Got, got, fault}
use Rattle.jsontext.specs.Utf8.{between}
use Rattle.jsontext.specs.Number.{Digits, digits_of, no_digits, with_digit, Number, digits_from, some_digits, whole_at, sign_end, with_exponent, exponent_at, plain_number, after_fraction, fraction_at, after_whole, number_at}
use Rattle.jsontext.specs.Productions.{DigitsAt, no_digit, digit, SomeDigitsAt, IntAt, only_zero, digit1_9, e?, SignAt, no_sign, sign_minus, sign_plus, exp, MinusOption, no_minus, minus, FracOption, no_frac, frac, ExpOption, no_exp, with_exp, NumberAt, number, continues?}
use Rattle.jsontext.proofs.Places.{stands, stands_as, either, neither, in_range, range_in, range_below, range_above, Reads, reads, none_read, read_is, read_as}

-- digits and other bytes
module _ (b : ℕ) where
  digit_range : digit? b ≡ true → (48 ≤ b) × (b ≤ 57)
  unfolding digit?
  digit_range e = in_range 48 57 b e

  above_zero : digit? b ≡ true → eqb b 48 ≡ false → between 49 57 b ≡ true
  above_zero e f = let r = digit_range e in let k = eqb-false b 48 f in range_in 49 57 b (omega arith) (omega arith)

  is_digit : between 49 57 b ≡ true → digit? b ≡ true
  unfolding digit?
  is_digit e = let r = in_range 49 57 b e in range_in 48 57 b (omega arith) (omega arith)

  point_no_digit : b ≡ 46 → digit? b ≡ false
  unfolding digit?
  point_no_digit e = range_below 48 57 b (omega arith)

  e_above : e? b ≡ true → 58 ≤ b
  unfolding e?
  e_above = either (eqb b 101) (eqb b 69) (λ e. let k = eqb-true b 101 e in omega arith) (λ e. let k = eqb-true b 69 e in omega arith)

  e_no_digit : e? b ≡ true → digit? b ≡ false
  unfolding digit?
  e_no_digit e = range_above 48 57 b (omega (arith, e_above e))

module _ (t : List ℕ) where
  digit_inside : (i : ℕ) → digit? (byte_at t i) ≡ true → i < length t
  unfolding digit?
  digit_inside i = stands t i digit? refl

  -- one digit or more, and none
  module _ (d : Digits) (i : ℕ) where
    some_step : digit? (byte_at t i) ≡ true → some_digits t d i ≡ digits_from (length t - (i + 1)) t (with_digit d (byte_at t i)) (i + 1)
    unfolding some_digits
    some_step e = let k = digit_inside i e in let z : length t - i ≡ suc (length t - (i + 1)) = omega arith in rw (e, z, digits_from, e)

    some_none : digit? (byte_at t i) ≡ false → some_digits t d i ≡ fault i
    unfolding some_digits
    some_none e = rw e

  -- WHAT IS READ

  digits_are : (f : ℕ) (d : Digits) (i : ℕ) → Reads (DigitsAt t d i) (digits_from f t d i)
  unfolding digits_from
  digits_are zero d i = reads no_digit
  digits_are (suc f) d i = go (digit? (byte_at t i)) refl (digits_are f (with_digit d (byte_at t i)) (i + 1))
    where
      go : (b : Bool) → digit? (byte_at t i) ≡ b → Reads (DigitsAt t (with_digit d (byte_at t i)) (i + 1)) (digits_from f t (with_digit d (byte_at t i)) (i + 1))
          → Reads (DigitsAt t d i) (elim b [ true ↦ digits_from f t (with_digit d (byte_at t i)) (i + 1) | false ↦ got d i ])
      go true e r = read_as (DigitsAt t (with_digit d (byte_at t i)) (i + 1)) (DigitsAt t d i) (λ v n h. digit e h) r
      go false e r = reads no_digit

  some_are : (d : Digits) (i : ℕ) → Reads (SomeDigitsAt t d i) (some_digits t d i)
  some_are d i = go (digit? (byte_at t i)) refl
    where
      go : (b : Bool) → digit? (byte_at t i) ≡ b → Reads (SomeDigitsAt t d i) (some_digits t d i)
      go true e =
          rw (some_step d i e)
          (read_as (DigitsAt t (with_digit d (byte_at t i)) (i + 1)) (SomeDigitsAt t d i) (λ v n h. record { first = e; others = h })
          (digits_are (length t - (i + 1)) (with_digit d (byte_at t i)) (i + 1)))
      go false e = rw (some_none d i e) none_read

  int_is : (i : ℕ) → Reads (IntAt t i) (whole_at t i)
  unfolding whole_at
  int_is i = go (eqb (byte_at t i) 48) refl (digit? (byte_at t (i + 1)))
    where
      go : (a : Bool) → eqb (byte_at t i) 48 ≡ a → (b : Bool) → Reads (IntAt t i) (cond a (cond b (fault (i + 1)) (got (digits_of 0 1) (i + 1))) (some_digits t no_digits i))
      go true e true = none_read
      go true e false = reads (only_zero (eqb-true _ _ e) refl)
      go false e b = read_as (SomeDigitsAt t no_digits i) (IntAt t i) (λ d n h. digit1_9 (above_zero (byte_at t i) h.first e) h.others) (some_are no_digits i)

  sign_is : (i : ℕ) → SignAt t i (sign_end t i)
  unfolding sign_end
  sign_is i = go (eqb (byte_at t i) 43) (eqb (byte_at t i) 45) refl refl
    where
      go : (a b : Bool) → eqb (byte_at t i) 43 ≡ a → eqb (byte_at t i) 45 ≡ b → SignAt t i (cond (a || b) (i + 1) i)
      go true b e f = sign_plus (eqb-true _ _ e) refl
      go false true e f = sign_minus (eqb-true _ _ f) refl
      go false false e f = no_sign

  -- with all that stands before it
  module _ (i : ℕ) {j k : ℕ} {d : Digits} {s : Bool} (m : MinusOption t i s j) (w : IntAt t j d k) where
    exp_is : {l places : ℕ} {e : Digits} {f : Bool} → FracOption t d k e places f l → Reads (NumberAt t i) (exponent_at t (plain_number s e places f) l)
    unfolding exponent_at e?
    exp_is {l} {places} {e} {f} h = go (e? (byte_at t l)) refl
      where
        ended : e? (byte_at t l) ≡ true → {g : Got Digits} → Reads (SomeDigitsAt t no_digits (sign_end t (l + 1))) g → Reads (NumberAt t i) (with_exponent (plain_number s e places f) g)
        ended q (reads p) = reads (number m w h (with_exp (exp q (sign_is (l + 1)) p)))
        ended q none_read = none_read

        go : (b : Bool) → e? (byte_at t l) ≡ b
            → Reads (NumberAt t i) (elim b [ true ↦ with_exponent (plain_number s e places f) (some_digits t no_digits (sign_end t (l + 1))) | false ↦ got (plain_number s e places f) l ])
        go true q = ended q (some_are no_digits (sign_end t (l + 1)))
        go false q = reads (number m w h no_exp)

    frac_is : Reads (NumberAt t i) (fraction_at t s d k)
    unfolding fraction_at
    frac_is = go (eqb (byte_at t k) 46) refl
      where
        ended : eqb (byte_at t k) 46 ≡ true → {g : Got Digits} → Reads (SomeDigitsAt t d (k + 1)) g → Reads (NumberAt t i) (after_fraction t s d g)
        ended q (reads p) = exp_is (frac (record { decimal_point = eqb-true _ _ q; digits = p }))
        ended q none_read = none_read

        go : (b : Bool) → eqb (byte_at t k) 46 ≡ b → Reads (NumberAt t i) (elim b [ true ↦ after_fraction t s d (some_digits t d (k + 1)) | false ↦ exponent_at t (plain_number s d 0 false) k ])
        go true q = ended q (some_are d (k + 1))
        go false q = exp_is no_frac

  number_is : (i : ℕ) → Reads (NumberAt t i) (number_at t i)
  unfolding number_at
  number_is i = go (eqb (byte_at t i) 45) refl
    where
      whole : {s : Bool} {j : ℕ} → MinusOption t i s j → {g : Got Digits} → Reads (IntAt t j) g → Reads (NumberAt t i) (after_whole t s g)
      whole m (reads w) = frac_is i m w
      whole m none_read = none_read

      go : (b : Bool) → eqb (byte_at t i) 45 ≡ b → Reads (NumberAt t i) (elim b [ true ↦ after_whole t true (whole_at t (i + 1)) | false ↦ after_whole t false (whole_at t i) ])
      go true e = whole (minus (eqb-true _ _ e) refl) (int_is (i + 1))
      go false e = whole no_minus (int_is i)

  -- A NUMBER THAT IS READ IS ONE BY ITS PRODUCTION.
  pub number_read : {i n : ℕ} {m : Number} → number_at t i ≡ got m n → NumberAt t i m n
  number_read {i} {n} {m} e = read_is (NumberAt t i) m n e (number_is i)

  -- WHAT IS ONE IS READ

  digits_all : {i n : ℕ} {d e : Digits} → DigitsAt t d i e n → digit? (byte_at t n) ≡ false → (f : ℕ) → length t ≤ i + f → digits_from f t d i ≡ got e n
  unfolding digits_from
  digits_all no_digit stop zero enough = refl
  digits_all no_digit stop (suc f) enough = rw (digits_from, stop)
  digits_all {i = i} (digit b h) stop zero enough = absurd (omega (arith, digit_inside i b))
  digits_all (digit b h) stop (suc f) enough = rw (digits_from, b) (digits_all h stop f (omega arith))

  some_all : {i n : ℕ} {d e : Digits} → SomeDigitsAt t d i e n → digit? (byte_at t n) ≡ false → some_digits t d i ≡ got e n
  some_all {i} {n} {d} h stop = some_step d i h.first ∙ digits_all h.others stop (length t - (i + 1)) (omega arith)

  int_all : {i n : ℕ} {d : Digits} → IntAt t i d n → digit? (byte_at t n) ≡ false → whole_at t i ≡ got d n
  unfolding whole_at
  int_all {i = i} {n = n} (only_zero b q) stop =
      let z : digit? (byte_at t (i + 1)) ≡ false = rw q at stop in
      rw (eq-eqb _ _ b, z, q)
  int_all {i = i} (digit1_9 b h) stop =
      let r = in_range 49 57 (byte_at t i) b in
      let z : eqb (byte_at t i) 48 ≡ false = ne_eqb (byte_at t i) 48 (λ e. omega arith) in
      rw z (some_all (record { first = is_digit (byte_at t i) b; others = h }) stop)

  sign_all : {i n : ℕ} → SignAt t i n → digit? (byte_at t n) ≡ true → sign_end t i ≡ n
  unfolding sign_end
  sign_all {i = i} no_sign b =
      let r = digit_range (byte_at t i) b in
      rw (ne_eqb (byte_at t i) 43 (λ e. omega arith), ne_eqb (byte_at t i) 45 (λ e. omega arith))
  sign_all {i = i} (sign_plus e q) b = rw (eq-eqb (byte_at t i) 43 e) (sym q)
  sign_all {i = i} (sign_minus e q) b = rw (ne_eqb (byte_at t i) 43 (λ z. omega arith), eq-eqb (byte_at t i) 45 e) (sym q)

  -- a byte that ends a number, whatever its last part is
  record Ends (n : ℕ) : Type 0 where
    other_digit : digit? (byte_at t n) ≡ false
    other_point : eqb (byte_at t n) 46 ≡ false
    other_e : e? (byte_at t n) ≡ false

  ends : (n : ℕ) → continues? (byte_at t n) ≡ false → Ends n
  unfolding continues?
  ends n h =
      let (a, r) = neither (digit? (byte_at t n)) (eqb (byte_at t n) 46 || e? (byte_at t n)) h in
      let (b, c) = neither (eqb (byte_at t n) 46) (e? (byte_at t n)) r in
      record { other_digit = a; other_point = b; other_e = c }

  -- an exponent, there or not, ends the digits before it
  before_exp : {i n : ℕ} {x : Bool} → ExpOption t i x n → Ends n → (digit? (byte_at t i) ≡ false) × (eqb (byte_at t i) 46 ≡ false)
  before_exp no_exp stop = (stop.other_digit, stop.other_point)
  before_exp {i = i} (with_exp (exp b s h)) stop = let k = e_above (byte_at t i) b in (e_no_digit (byte_at t i) b, ne_eqb (byte_at t i) 46 (λ z. omega arith))

  before_frac : {i j n : ℕ} {d e : Digits} {places : ℕ} {f x : Bool} → FracOption t d i e places f j → ExpOption t j x n → Ends n → digit? (byte_at t i) ≡ false
  before_frac no_frac y stop = (before_exp y stop).0
  before_frac {i = i} (frac h) y stop = point_no_digit (byte_at t i) h.decimal_point

  -- a number with the parts that were found
  abbrev found : Bool → Digits → ℕ → Bool → Bool → Number
  found s e places f x = record { negative = s; digits = e; places = places; fraction = f; exponent = x }

  exp_all : {i n : ℕ} {x : Bool} → ExpOption t i x n → Ends n → (s : Bool) (e : Digits) (places : ℕ) (f : Bool) → exponent_at t (plain_number s e places f) i ≡ got (found s e places f x) n
  unfolding exponent_at e?
  exp_all no_exp stop s e places f = rw (exponent_at, stop.other_e)
  exp_all {i = i} (with_exp (exp {j = j} b g h)) stop s e places f =
      rw (exponent_at, b) (ap (λ (k : ℕ). with_exponent (plain_number s e places f) (some_digits t no_digits k)) (sign_all g h.first) ∙ ap (with_exponent (plain_number s e places f)) (some_all h stop.other_digit))

  frac_all : {i j n : ℕ} {d e : Digits} {places : ℕ} {f x : Bool} → FracOption t d i e places f j → ExpOption t j x n → Ends n → (s : Bool) → fraction_at t s d i ≡ got (found s e places f x) n
  unfolding fraction_at
  frac_all {d = d} no_frac y stop s = rw (fraction_at, (before_exp y stop).1) (exp_all y stop s d 0 false)
  frac_all {d = d} {e = e} (frac h) y stop s =
      rw (fraction_at, eq-eqb _ _ h.decimal_point) (ap (after_fraction t s d) (some_all h.digits (before_exp y stop).0) ∙ exp_all y stop s e (e.count - d.count) true)

  int_above : {i n : ℕ} {d : Digits} → IntAt t i d n → 48 ≤ byte_at t i
  int_above (only_zero b q) = omega arith
  int_above {i = i} (digit1_9 b h) = let r = in_range 49 57 (byte_at t i) b in omega arith

  -- A NUMBER BY ITS PRODUCTION, which the byte after it could not make longer, IS READ.
  pub read_number : {i n : ℕ} {m : Number} → NumberAt t i m n → continues? (byte_at t n) ≡ false → number_at t i ≡ got m n
  unfolding number_at
  read_number {i = i} {n = n} (number no_minus w f x) stop =
      let z : eqb (byte_at t i) 45 ≡ false = ne_eqb (byte_at t i) 45 (λ e. omega (arith, int_above w)) in
      rw (number_at, z) (ap (after_whole t false) (int_all w (before_frac f x (ends n stop))) ∙ frac_all f x (ends n stop) false)
  read_number {i = i} {n = n} (number (minus e q) w f x) stop =
      rw (number_at, eq-eqb _ _ e, ← q) (ap (after_whole t true) (int_all w (before_frac f x (ends n stop))) ∙ frac_all f x (ends n stop) true)

  -- so there is one of them at a place
  pub number_once : {i m n : ℕ} {x y : Number} → NumberAt t i x m → continues? (byte_at t m) ≡ false → NumberAt t i y n → continues? (byte_at t n) ≡ false → (x ≡ y) × (m ≡ n)
  number_once {m = m} {n = n} {x = x} {y = y} a stop b stop' = let e : got x m ≡ got y n = sym (read_number a stop) ∙ read_number b stop' in (cc, cc)

  -- HOW FAR

  digits_ahead : {i n : ℕ} {d e : Digits} → DigitsAt t d i e n → i ≤ length t → (i ≤ n) × (n ≤ length t)
  digits_ahead no_digit inside = (omega arith, inside)
  digits_ahead {i = i} (digit b h) inside = let k = digit_inside i b in let r = digits_ahead h (omega arith) in (omega arith, r.1)

  some_ahead : {i n : ℕ} {d e : Digits} → SomeDigitsAt t d i e n → (i < n) × (n ≤ length t)
  some_ahead {i} h = let k = digit_inside i h.first in let r = digits_ahead h.others (omega arith) in (omega arith, r.1)

  int_ahead : {i n : ℕ} {d : Digits} → IntAt t i d n → (i < n) × (n ≤ length t)
  int_ahead {i = i} (only_zero b q) = let k = stands_as t i 48 refl b in (omega arith, omega arith)
  int_ahead {i = i} (digit1_9 b h) = some_ahead {d = no_digits} (record { first = is_digit (byte_at t i) b; others = h })

  sign_ahead : {i n : ℕ} → SignAt t i n → i ≤ n
  sign_ahead no_sign = omega arith
  sign_ahead (sign_minus e q) = omega arith
  sign_ahead (sign_plus e q) = omega arith

  minus_ahead : {i n : ℕ} {s : Bool} → MinusOption t i s n → i ≤ n
  minus_ahead no_minus = omega arith
  minus_ahead (minus e q) = omega arith

  frac_ahead : {i n : ℕ} {d e : Digits} {places : ℕ} {f : Bool} → FracOption t d i e places f n → i ≤ length t → (i ≤ n) × (n ≤ length t)
  frac_ahead no_frac inside = (omega arith, inside)
  frac_ahead (frac h) inside = let r = some_ahead h.digits in (omega arith, r.1)

  exp_ahead : {i n : ℕ} {x : Bool} → ExpOption t i x n → i ≤ length t → (i ≤ n) × (n ≤ length t)
  exp_ahead no_exp inside = (omega arith, inside)
  exp_ahead (with_exp (exp b s h)) inside = let k = sign_ahead s in let r = some_ahead h in (omega arith, r.1)

  -- a number ends behind its place and inside the text
  pub number_ahead : {i n : ℕ} {m : Number} → NumberAt t i m n → (i < n) × (n ≤ length t)
  number_ahead (number m w f x) =
      let a = minus_ahead m in
      let b = int_ahead w in
      let c = frac_ahead f b.1 in
      let d = exp_ahead x c.1 in
      (omega arith, d.1)
