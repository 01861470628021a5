-- The text of a scalar, read again. Assumes nothing.
use mathlib.Core.Path.{◌≡◌, refl, sym, ap, subst, ◌∙◌}
use mathlib.Core.Bool.{Bool, true, false, ◌&&◌, ◌||◌, cond}
use mathlib.Core.List.{List, [], ◌∷◌, ◌++◌, append_assoc}
use Prim.Native.Nat.{ℕ, zero, suc, ◌+◌, ◌-◌, ◌*◌, ◌/◌, ◌%◌, ◌^◌, ◌<◌, ◌≤◌}
use native.Mathlib.Nat.{div-lt_iff_lt-mul, pow-suc}
use native.Mathlib.Numerals.{add-one}
use native.Mathlib.Omega.{arith}
use borrow.Author.Tests.{lt-ltb, le-leb, lt-leb, ltb-true, ltb-false, ne_eqb}
use lib.Dec.{T, eqb, leb, ltb, eqb→eq, ltb→lt}
use lib.ListN.{length, get_or, length-append, get_or-append}
use Rattle.model.specs.Table.{rate?, scalar?}
use Rattle.model.proofs.Scalars.{by_kind, rate_below, standing_stays}
use Rattle.names.specs.Names.{letter?, digit?, name_byte?, digits, decimal}
use Rattle.term.specs.Scan.{byte_at, got, digit_value, digits_from, number_at, hex_digit?, hex_value, hex_from, scalar, of_kind, of_rate, value_at, scalar_at}
use Rattle.term.proofs.Bytes.{digit_range}
use Rattle.term.proofs.Scalars.{number_digits, number_zero}
use Rattle.spelling.specs.Text.{hex_digit, hex_digits, scalar_text}
use Rattle.spelling.proofs.Decimal.{last_digit, next_digit, decimal_last}
use Rattle.spelling.proofs.Pieces.{hex_length}
use Rattle.spelling.proofs.Standing.{Stands, head_of, behind, next, stands_as, word_read}

-- a byte that can follow a term: it continues neither a name nor a number, and opens nothing
pub record Closes (b : ℕ) : Type 0 where
  pub no_name : name_byte? b ≡ false
  pub no_digit : digit? b ≡ false
  pub no_bracket : eqb b 40 ≡ false
  pub no_sign : (eqb b 61 ≡ false) × (eqb b 126 ≡ false) × (eqb b 35 ≡ false)

-- decimal digits
abbrev AllDigits : List ℕ → Type 0
AllDigits [] = Unit {0}
AllDigits (d ∷ ds) = (digit? d ≡ true) × AllDigits ds

-- the number that they say, after the number v
abbrev worth : ℕ → List ℕ → ℕ
worth v [] = v
worth v (d ∷ ds) = worth (v * 10 + digit_value d) ds

worth_grows : (v : ℕ) (ds : List ℕ) → v ≤ worth v ds
worth_grows v [] = omega arith
worth_grows v (d ∷ ds) = let h = worth_grows (v * 10 + digit_value d) ds in omega arith

worth_append : (v : ℕ) (a b : List ℕ) → worth v (a ++ b) ≡ worth (worth v a) b
worth_append v [] b = refl
worth_append v (d ∷ a) b = worth_append (v * 10 + digit_value d) a b

digits_append : (a b : List ℕ) → AllDigits a → AllDigits b → AllDigits (a ++ b)
digits_append [] b h k = k
digits_append (d ∷ a) b h k = (h.0, digits_append a b h.1 k)

is_digit : (n : ℕ) → n < 10 → digit? (48 + n) ≡ true
unfolding digit?
is_digit n l =
    let a : leb 48 (48 + n) ≡ true = le-leb 48 (48 + n) (omega arith) in
    let b : leb (48 + n) 57 ≡ true = le-leb (48 + n) 57 (omega arith) in
    rw (a, b)

all_digits : (f n : ℕ) → AllDigits (digits f n)
unfolding digits
all_digits zero n = tt
all_digits (suc f) n = go (all_digits f (n / 10)) (ltb n 10) refl
  where
    go : AllDigits (digits f (n / 10)) → (b : Bool) → ltb n 10 ≡ b → AllDigits (digits (suc f) n)
    go ih true e = let l = ltb-true n 10 e in subst AllDigits (sym (last_digit f n l)) (is_digit n l, tt)
    go ih false e = subst AllDigits (sym (next_digit f n (ltb-false n 10 e))) (digits_append (digits f (n / 10)) ((48 + n % 10) ∷ []) ih (is_digit (n % 10) (omega arith), tt))

digits_worth : (f n : ℕ) → n < f → worth 0 (digits f n) ≡ n
digits_worth zero n l = absurd (omega arith)
digits_worth (suc f) n l = go (digits_worth f (n / 10)) (ltb n 10) refl
  where
    go : (n / 10 < f → worth 0 (digits f (n / 10)) ≡ n / 10) → (b : Bool) → ltb n 10 ≡ b → worth 0 (digits (suc f) n) ≡ n
    go ih true e = ap (worth 0) (last_digit f n (ltb-true n 10 e)) ∙ (let z : 0 * 10 + (48 + n - 48) ≡ n = omega arith in z)
    go ih false e =
        let k = ltb-false n 10 e in
        let v = ih (omega arith) in
        let z : n / 10 * 10 + (48 + n % 10 - 48) ≡ n = omega arith in
        ap (worth 0) (next_digit f n k) ∙ worth_append 0 (digits f (n / 10)) ((48 + n % 10) ∷ []) ∙ ap (λ w. w * 10 + (48 + n % 10 - 48)) v ∙ z

digits_some : (f n : ℕ) → 0 < f → 0 < length (digits f n)
digits_some zero n l = absurd (omega arith)
digits_some (suc f) n l = go (ltb n 10) refl
  where
    go : (b : Bool) → ltb n 10 ≡ b → 0 < length (digits (suc f) n)
    go true e = rw (last_digit f n (ltb-true n 10 e)) (omega arith)
    go false e = rw (next_digit f n (ltb-false n 10 e), length-append) (omega arith)

-- no leading 0
digits_lead : (f n : ℕ) → 0 < n → n < f → get_or (digits f n) 0 0 ≡ 48 → ⊥
digits_lead zero n p l q = absurd (omega arith)
digits_lead (suc f) n p l q = go (digits_lead f (n / 10)) (ltb n 10) refl
  where
    go : (0 < n / 10 → n / 10 < f → get_or (digits f (n / 10)) 0 0 ≡ 48 → ⊥) → (b : Bool) → ltb n 10 ≡ b → ⊥
    go ih true e = let z : 48 + n ≡ 48 = sym (ap (λ x. get_or x 0 0) (last_digit f n (ltb-true n 10 e))) ∙ q in omega arith
    go ih false e =
        let k = ltb-false n 10 e in
        let r : n / 10 < f = omega arith in
        ih (omega arith) r
        (sym (get_or-append (digits f (n / 10)) ((48 + n % 10) ∷ []) 0 0 (digits_some f (n / 10) (omega arith)))
        ∙ sym (ap (λ x. get_or x 0 0) (next_digit f n k))
        ∙ q)

-- digits at a place, to the first byte that is none
module _ (limit : ℕ) (t l : List ℕ) (ends : digit? (get_or l 0 0) ≡ false) where
  no_more : (n v i : ℕ) → digit? (byte_at t i) ≡ false → digits_from n limit t v i ≡ got v i
  unfolding digits_from
  no_more zero v i e = refl
  no_more (suc n) v i e = rw (digits_from, e)

  one_more : (n v i d : ℕ) → byte_at t i ≡ d → digit? d ≡ true → v * 10 + digit_value d < limit → digits_from (suc n) limit t v i ≡ digits_from n limit t (v * 10 + digit_value d) (suc i)
  unfolding digits_from
  one_more n v i d e h k =
      let a : digit? (byte_at t i) ≡ true = ap digit? e ∙ h in
      let b : ltb (v * 10 + digit_value (byte_at t i)) limit ≡ true = ap (λ x. ltb (v * 10 + digit_value x) limit) e ∙ lt-ltb _ _ k in
      rw (digits_from, a, b) (ap (λ x. digits_from n limit t (v * 10 + digit_value x) (suc i)) e)

  digits_read : (ds : List ℕ) → AllDigits ds → (n v i : ℕ) → Stands t i (ds ++ l) → length ds ≤ n → worth v ds < limit → digits_from n limit t v i ≡ got (worth v ds) (i + length ds)
  digits_read [] a n v i h m k = let z : i ≡ i + 0 = omega arith in no_more n v i (ap digit? (head_of t i l h) ∙ ends) ∙ ap (got v) z
  digits_read (d ∷ ds) a zero v i h m k = absurd (omega arith)
  digits_read (d ∷ ds) a (suc n) v i h m k =
      let g = worth_grows (v * 10 + digit_value d) ds in
      let z : suc i + length ds ≡ i + suc (length ds) = omega arith in
      let s : Stands t (suc i) (ds ++ l) = rw (add-one i) at (next t i d (ds ++ l) h) in
      one_more n v i d (head_of t i (d ∷ ds ++ l) h) a.0 (omega arith)
      ∙ digits_read ds a.1 n (v * 10 + digit_value d) (suc i) s (omega arith) k
      ∙ ap (got (worth (v * 10 + digit_value d) ds)) z

  -- a number below the limit
  pub number_read : (n i : ℕ) → n < limit → Stands t i (decimal n ++ l) → number_at limit t i ≡ got n (i + length (decimal n))
  number_read zero i k h =
      let e : decimal 0 ≡ 48 ∷ [] = decimal_last 0 (omega arith) in
      let s : Stands t i (48 ∷ l) = stands_as t i (decimal 0 ++ l) (48 ∷ l) (ap (λ x. x ++ l) e) h in
      let z : digit? 48 ≡ true = is_digit 0 (omega arith) in
      sym (number_zero limit t i 48 (sym (head_of t i (48 ∷ l) s)) z refl (ap digit? (head_of t (i + 1) l (next t i 48 l s)) ∙ ends))
      ∙ ap (λ x. got 0 (i + length x)) (sym e)
  number_read (suc n) i k h = go (decimal (suc n)) refl
    where
      go : (w : List ℕ) → decimal (suc n) ≡ w → number_at limit t i ≡ got (suc n) (i + length (decimal (suc n)))
      go [] e = let z = digits_some (suc (suc n)) (suc n) (omega arith) in let y = ap length e in absurd (omega arith)
      go (b ∷ ds) e =
          let s : Stands t i (b ∷ ds ++ l) = stands_as t i (decimal (suc n) ++ l) (b ∷ ds ++ l) (ap (λ x. x ++ l) e) h in
          let a : AllDigits (b ∷ ds) = subst AllDigits e (all_digits (suc (suc n)) (suc n)) in
          let v : worth (digit_value b) ds ≡ suc n = (let z : digit_value b ≡ 0 * 10 + digit_value b = omega arith in ap (λ x. worth x ds) z) ∙ ap (worth 0) (sym e) ∙ digits_worth (suc (suc n)) (suc n) (omega arith) in
          let c : b ≡ 48 → ⊥ = λ q. digits_lead (suc (suc n)) (suc n) (omega arith) (omega arith) (ap (λ x. get_or x 0 0) e ∙ q) in
          let y = length-append ds l in
          let x = ap length e in
          let end = s.end in
          let p : i + 1 + length ds ≡ i + length (decimal (suc n)) = omega arith in
          sym (number_digits limit t i b (sym (head_of t i (b ∷ ds ++ l) s)) a.0 c (digit_value b) refl)
          ∙ digits_read ds a.1 (length t - (i + 1)) (digit_value b) (i + 1) (next t i b (ds ++ l) s) (omega arith) (rw v k)
          ∙ (λ j. got (v j) (p j))

-- a decimal number starts with a digit
pub first_digit : (t : List ℕ) (n i : ℕ) (l : List ℕ) → Stands t i (decimal n ++ l) → digit? (byte_at t i) ≡ true
first_digit t n i l h = go (decimal n) refl
  where
    go : (w : List ℕ) → decimal n ≡ w → digit? (byte_at t i) ≡ true
    go [] e = let z = digits_some (suc n) n (omega arith) in let y = ap length e in absurd (omega arith)
    go (b ∷ ds) e =
        let s : Stands t i (b ∷ ds ++ l) = stands_as t i (decimal n ++ l) (b ∷ ds ++ l) (ap (λ x. x ++ l) e) h in
        ap digit? (head_of t i (b ∷ ds ++ l) s) ∙ (subst AllDigits e (all_digits (suc n) n)).0

-- hex digits
past_digits : (x : ℕ) → 57 < x → digit? x ≡ false
unfolding digit?
past_digits x h =
    let a : leb 48 x ≡ true = le-leb 48 x (omega arith) in
    let b : leb x 57 ≡ false = lt-leb x 57 h in
    rw (a, b)

hex_is : (n : ℕ) → n < 16 → (hex_digit? (hex_digit n) ≡ true) × (hex_value (hex_digit n) ≡ n)
unfolding hex_digit hex_digit? hex_value
hex_is n l = go (ltb n 10) refl
  where
    go : (b : Bool) → ltb n 10 ≡ b → ((digit? (cond b (48 + n) (87 + n)) || (leb 97 (cond b (48 + n) (87 + n)) && leb (cond b (48 + n) (87 + n)) 102)) ≡ true) × (cond (digit? (cond b (48 + n) (87 + n))) (cond b (48 + n) (87 + n) - 48) (cond b (48 + n) (87 + n) - 87) ≡ n)
    go true e = let d = is_digit n (ltb-true n 10 e) in (rw d, rw d (omega arith))
    go false e =
        let k = ltb-false n 10 e in
        let d : digit? (87 + n) ≡ false = past_digits (87 + n) (omega arith) in
        let a : leb 97 (87 + n) ≡ true = le-leb 97 (87 + n) (omega arith) in
        let b : leb (87 + n) 102 ≡ true = le-leb (87 + n) 102 (omega arith) in
        (rw (d, a, b), rw d (omega arith))

module _ (t : List ℕ) where
  next_hex : (m v i b n : ℕ) → byte_at t i ≡ b → hex_digit? b ≡ true → hex_value b ≡ n → hex_from (suc m) t v i ≡ hex_from m t (v * 16 + n) (suc i)
  unfolding hex_from
  next_hex m v i b n e h q =
      let a : hex_digit? (byte_at t i) ≡ true = ap hex_digit? e ∙ h in
      rw (hex_from, a) (ap (λ x. hex_from m t (v * 16 + x) (suc i)) (ap hex_value e ∙ q))

  hex_read : (k m n i : ℕ) (r : List ℕ) → n < 16 ^ k → Stands t i (hex_digits k n ++ r) → hex_from (k + m) t 0 i ≡ hex_from m t n (i + k)
  unfolding hex_digits
  hex_read zero m n i r p h =
      let a : 0 + m ≡ m = omega arith in
      let b : 0 ≡ n = omega arith in
      let c : i ≡ i + 0 = omega arith in
      λ j. hex_from (a j) t (b j) (c j)
  hex_read (suc k) m n i r p h =
      let x = hex_digit (n % 16) in
      let q : n < 16 ^ k * 16 = rw (pow-suc 16 k) at p in
      let low : n / 16 < 16 ^ k = (div-lt_iff_lt-mul {k = 16} (omega arith)).1 q in
      let s : Stands t i (hex_digits k (n / 16) ++ (x ∷ r)) = stands_as t i _ _ (append_assoc (hex_digits k (n / 16)) (x ∷ []) r) h in
      let z = hex_length k (n / 16) in
      let at_x : i + length (hex_digits k (n / 16)) ≡ i + k = omega arith in
      let b : byte_at t (i + k) ≡ x = ap (byte_at t) (sym at_x) ∙ head_of t (i + length (hex_digits k (n / 16))) (x ∷ r) (behind t i (hex_digits k (n / 16)) (x ∷ r) s) in
      let d = hex_is (n % 16) (omega arith) in
      let e : suc k + m ≡ k + suc m = omega arith in
      let v : n / 16 * 16 + n % 16 ≡ n = omega arith in
      let w : suc (i + k) ≡ i + suc k = omega arith in
      ap (λ f. hex_from f t 0 i) e ∙ hex_read k (suc m) (n / 16) i (x ∷ r) low s ∙ next_hex m (n / 16) (i + k) x (n % 16) b d.0 d.1 ∙ (λ j. hex_from m t (v j) (w j))

module _ (t l : List ℕ) (c : Closes (get_or l 0 0)) where
  -- what stands behind a name neither continues it nor opens a bracket
  pub record Opens (k p : ℕ) : Type 0 where
    pub no_name : name_byte? (get_or (scalar_text k p ++ l) 0 0) ≡ false
    pub no_bracket : eqb (get_or (scalar_text k p ++ l) 0 0) 40 ≡ false

  pub scalar_opens : (k p : ℕ) → T (scalar? k p) → Opens k p
  unfolding scalar_text name_byte? letter? digit?
  scalar_opens k p =
      by_kind (λ j. Opens j p) p
      (λ e. record { no_name = c.no_name; no_bracket = c.no_bracket })
      (λ e. flag (eqb p 1) refl)
      (λ e. record { no_name = refl; no_bracket = refl })
      (λ e. record { no_name = refl; no_bracket = refl })
      (λ e. record { no_name = refl; no_bracket = refl })
      k
    where
      flag : (b : Bool) → eqb p 1 ≡ b → Opens 1 p
      flag true e = record { no_name = rw e; no_bracket = rw e }
      flag false e = record { no_name = rw e; no_bracket = rw e }

  -- THE TEXT OF A SCALAR IS READ AS THE SCALAR
  abbrev Reads : ℕ → ℕ → Type 0
  Reads p k = (i : ℕ) → Stands t i (scalar_text k p ++ l) → scalar_at t i ≡ got (scalar k p) (i + length (scalar_text k p))

  bare_read : (p : ℕ) → T (eqb p 0) → Reads p 0
  unfolding scalar_text scalar_at
  bare_read p e i h =
      let b = head_of t i l h in
      let (x, y, z) = c.no_sign in
      let u : eqb (byte_at t i) 61 ≡ false = ap (λ n. eqb n 61) b ∙ x in
      let v : eqb (byte_at t i) 126 ≡ false = ap (λ n. eqb n 126) b ∙ y in
      let w : eqb (byte_at t i) 35 ≡ false = ap (λ n. eqb n 35) b ∙ z in
      let q : i ≡ i + 0 = omega arith in
      rw (scalar_at, u, v, w) (λ j. got (scalar 0 (sym (eqb→eq p 0 e) j)) (q j))

  -- after `=`
  value : (i : ℕ) (r : List ℕ) → Stands t i (61 ∷ r) → scalar_at t i ≡ value_at t (i + 1)
  unfolding scalar_at
  value i r h = let u : eqb (byte_at t i) 61 ≡ true = ap (λ n. eqb n 61) (head_of t i (61 ∷ r) h) in rw (scalar_at, u)

  flag_read : (p : ℕ) → T (ltb p 2) → Reads p 1
  unfolding scalar_text value_at
  flag_read zero e i h =
      let s = next t i 61 (102 ∷ 97 ∷ 108 ∷ 115 ∷ 101 ∷ l) h in
      let b = head_of t (i + 1) (102 ∷ 97 ∷ 108 ∷ 115 ∷ 101 ∷ l) s in
      let u : eqb (byte_at t (i + 1)) 116 ≡ false = ap (λ n. eqb n 116) b in
      let v : eqb (byte_at t (i + 1)) 102 ≡ true = ap (λ n. eqb n 102) b in
      let z : i + 1 + 5 ≡ i + 6 = omega arith in
      value i (102 ∷ 97 ∷ 108 ∷ 115 ∷ 101 ∷ l) h
      ∙ rw (value_at, u, v) (word_read t (i + 1) (scalar 1 0) (102 ∷ 97 ∷ 108 ∷ 115 ∷ 101 ∷ []) l s ∙ ap (got (scalar 1 0)) z)
  flag_read (suc zero) e i h =
      let s = next t i 61 (116 ∷ 114 ∷ 117 ∷ 101 ∷ l) h in
      let u : eqb (byte_at t (i + 1)) 116 ≡ true = ap (λ n. eqb n 116) (head_of t (i + 1) (116 ∷ 114 ∷ 117 ∷ 101 ∷ l) s) in
      let z : i + 1 + 4 ≡ i + 5 = omega arith in
      value i (116 ∷ 114 ∷ 117 ∷ 101 ∷ l) h
      ∙ rw (value_at, u) (word_read t (i + 1) (scalar 1 1) (116 ∷ 114 ∷ 117 ∷ 101 ∷ []) l s ∙ ap (got (scalar 1 1)) z)
  flag_read (suc (suc p)) e i h = let z = ltb→lt (suc (suc p)) 2 e in absurd (omega arith)

  count_read : (p : ℕ) → T (ltb p (2 ^ 64)) → Reads p 2
  unfolding scalar_text value_at
  count_read p e i h =
      let s = next t i 61 (decimal p ++ l) h in
      let (low, high) = digit_range (byte_at t (i + 1)) (first_digit t p (i + 1) l s) in
      let u : eqb (byte_at t (i + 1)) 116 ≡ false = ne_eqb (byte_at t (i + 1)) 116 (λ q. omega arith) in
      let v : eqb (byte_at t (i + 1)) 102 ≡ false = ne_eqb (byte_at t (i + 1)) 102 (λ q. omega arith) in
      let z : i + 1 + length (decimal p) ≡ i + suc (length (decimal p)) = omega arith in
      value i (decimal p ++ l) h ∙ rw (value_at, u, v) (ap (of_kind 2) (number_read (2 ^ 64) t l c.no_digit p (i + 1) (ltb→lt p (2 ^ 64) e) s) ∙ ap (got (scalar 2 p)) z)

  hex_end : (v i : ℕ) → hex_from 0 t v i ≡ got v i
  unfolding hex_from
  hex_end v i = refl

  rate_read : (p : ℕ) → T (rate? p) → Reads p 3
  unfolding scalar_text scalar_at
  rate_read p e i h =
      let b = head_of t i (126 ∷ hex_digits 16 p ++ l) h in
      let u : eqb (byte_at t i) 61 ≡ false = ap (λ n. eqb n 61) b in
      let v : eqb (byte_at t i) 126 ≡ true = ap (λ n. eqb n 126) b in
      let q : hex_from 16 t 0 (i + 1) ≡ got p (i + 1 + 16) = hex_read t 16 0 p (i + 1) l (omega (arith, rate_below p e)) (next t i 126 (hex_digits 16 p ++ l) h) ∙ hex_end p (i + 1 + 16) in
      let n = hex_length 16 p in
      let z : i + 1 + 16 ≡ i + suc (length (hex_digits 16 p)) = omega arith in
      rw (scalar_at, u, v) (ap of_rate q ∙ λ j. got (scalar 3 (standing_stays p e j)) (z j))

  name_read : (p : ℕ) → T (ltb p (2 ^ 32)) → Reads p 4
  unfolding scalar_text scalar_at
  name_read p e i h =
      let b = head_of t i (35 ∷ decimal p ++ l) h in
      let u : eqb (byte_at t i) 61 ≡ false = ap (λ n. eqb n 61) b in
      let v : eqb (byte_at t i) 126 ≡ false = ap (λ n. eqb n 126) b in
      let w : eqb (byte_at t i) 35 ≡ true = ap (λ n. eqb n 35) b in
      let z : i + 1 + length (decimal p) ≡ i + suc (length (decimal p)) = omega arith in
      rw (scalar_at, u, v, w)
      (ap (of_kind 4) (number_read (2 ^ 32) t l c.no_digit p (i + 1) (ltb→lt p (2 ^ 32) e) (next t i 35 (decimal p ++ l) h)) ∙ ap (got (scalar 4 p)) z)

  pub scalar_read : (k p : ℕ) → T (scalar? k p) → (i : ℕ) → Stands t i (scalar_text k p ++ l) → scalar_at t i ≡ got (scalar k p) (i + length (scalar_text k p))
  scalar_read k p = by_kind (Reads p) p (bare_read p) (flag_read p) (count_read p) (rate_read p) (name_read p) k
