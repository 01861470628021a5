-- Numbers, words and scalars at a place: each way through the definitions, and the ranges of what is read. Assumes nothing.
use mathlib.Core.Path.{◌≡◌, refl, sym, ap, ◌∙◌}
use mathlib.Core.Bool.{Bool, true, false, cond}
use mathlib.Core.List.{List, [], ◌∷◌}
use Prim.Native.Nat.{ℕ, zero, suc, ◌+◌, ◌-◌, ◌*◌, ◌^◌, ◌<◌, ◌≤◌}
use native.Mathlib.Nat.{le_refl, pow-suc}
use native.Mathlib.Omega.{arith}
use borrow.Author.Tests.{eq-eqb, ne_eqb, ltb-true, lt-ltb}
use lib.Dec.{T, eqb, ltb}
use lib.ListN.{length}
use Rattle.model.specs.Table.{rate?, one_zero, scalar?}
use Rattle.model.proofs.Members.{T_true}
use Rattle.model.proofs.Scalars.{one_zero_stands}
use Rattle.base.proofs.Got.{Reads, reads, none_read, read_as}
use Rattle.names.specs.Names.{digit?}
use Rattle.document.specs.declared.scalar.Scalar.{Scalar as Value}
use Rattle.document.specs.Scalars.{row_rate, kind_of, payload_of}
use Rattle.document.proofs.Rates.{kind_row_rate, payload_row_rate}
use Rattle.term.specs.Scan.{byte_at, Got, got, fault, digit_value, digits_from, number_at, hex_digit?, hex_value, hex_from, word_bytes, word_at, Scalar, scalar, of_kind, of_rate, value_at, scalar_at}
use Rattle.term.specs.Answer.{number_of}
use Rattle.std.specs.Prelude.{Result, Ok, Err}
use Rattle.base.specs.declared.text.Fault.{Fault}
use Rattle.term.proofs.Bytes.{digit_range, hex_value_below}

-- a number, b being the byte at i
module _ (limit : ℕ) (t : List ℕ) (i b : ℕ) (here : b ≡ byte_at t i) where
  pub number_none : digit? b ≡ false → fault i ≡ number_at limit t i
  unfolding number_at
  number_none e = let f : digit? (byte_at t i) ≡ false = cc in rw (number_at, f)

  module _ (is : digit? b ≡ true) where
    pub number_digits : (b ≡ 48 → ⊥) → (d : ℕ) → d ≡ digit_value b → digits_from (length t - (i + 1)) limit t d (i + 1) ≡ number_at limit t i
    unfolding number_at
    number_digits n d q =
        let f : digit? (byte_at t i) ≡ true = cc in
        let g : eqb (byte_at t i) 48 ≡ false = ne_eqb _ _ (λ e. n (here ∙ e)) in
        rw (number_at, f, g, q, here)

    module _ (zero-digit : b ≡ 48) where
      as_zero : (r : Bool) → digit? (byte_at t (i + 1)) ≡ r → number_at limit t i ≡ cond r (fault (i + 1)) (got 0 (i + 1))
      unfolding number_at
      as_zero r e =
          let f : digit? (byte_at t i) ≡ true = cc in
          let g : eqb (byte_at t i) 48 ≡ true = eq-eqb _ _ (sym here ∙ zero-digit) in
          rw (number_at, f, g, e)

      pub number_more : digit? (byte_at t (i + 1)) ≡ true → fault (i + 1) ≡ number_at limit t i
      number_more e = sym (as_zero true e)

      pub number_zero : digit? (byte_at t (i + 1)) ≡ false → got 0 (i + 1) ≡ number_at limit t i
      number_zero e = sym (as_zero false e)

-- numbers in range are scalars
count_is : (n : ℕ) → n < 2 ^ 64 → T (scalar? 2 n)
count_is n h = rw (lt-ltb n (2 ^ 64) h) tt

rate_is : (n : ℕ) → n < 2 ^ 64 → T (scalar? 3 (one_zero n))
rate_is n h = rw ((T_true (rate? (one_zero n))).0 (one_zero_stands n h)) tt

name_is : (n : ℕ) → n < 2 ^ 32 → T (scalar? 4 n)
name_is n h = rw (lt-ltb n (2 ^ 32) h) tt

pub read_kind : (P : ℕ → ℕ → Type 0) (Q : Scalar → ℕ → Type 0) (k : ℕ) {g : Got ℕ} → ((n e : ℕ) → P n e → Q (scalar k n) e) → Reads P g → Reads Q (of_kind k g)
read_kind P Q k f (reads h) = reads (f _ _ h)
read_kind P Q k f none_read = none_read

pub read_rate : (P : ℕ → ℕ → Type 0) (Q : Scalar → ℕ → Type 0) {g : Got ℕ} → ((n e : ℕ) → P n e → Q (scalar 3 (one_zero n)) e) → Reads P g → Reads Q (of_rate g)
read_rate P Q f (reads h) = reads (f _ _ h)
read_rate P Q f none_read = none_read

-- a number below the limit, up to a place that is not before i
abbrev pub NumberFrom : ℕ → ℕ → ℕ → ℕ → Type 0
NumberFrom limit i n e = (n < limit) × (i ≤ e)

pub digits_below : (limit : ℕ) (t : List ℕ) (f v i : ℕ) → v < limit → Reads (NumberFrom limit i) (digits_from f limit t v i)
unfolding digits_from
digits_below limit t zero v i h = reads (h, le_refl i)
digits_below limit t (suc f) v i h =
    go (digit? (byte_at t i)) (ltb (v * 10 + digit_value (byte_at t i)) limit) refl
    (λ l. read_as _ _ (λ n e p. (p.0, omega arith)) (digits_below limit t f (v * 10 + digit_value (byte_at t i)) (suc i) l))
  where
    go : (a b : Bool) → ltb (v * 10 + digit_value (byte_at t i)) limit ≡ b → (v * 10 + digit_value (byte_at t i) < limit → Reads (NumberFrom limit i) (digits_from f limit t (v * 10 + digit_value (byte_at t i)) (suc i)))
        → Reads (NumberFrom limit i) (elim a [ false ↦ got v i | true ↦ elim b [ true ↦ digits_from f limit t (v * 10 + digit_value (byte_at t i)) (suc i) | false ↦ fault i ] ])
    go false b e k = reads (h, le_refl i)
    go true true e k = k (ltb-true _ _ e)
    go true false e k = none_read

pub number_below : (limit : ℕ) (t : List ℕ) (i : ℕ) → 9 < limit → Reads (NumberFrom limit i) (number_at limit t i)
unfolding number_at
number_below limit t i h = go (digit? (byte_at t i)) refl (eqb (byte_at t i) 48) (digit? (byte_at t (i + 1)))
  where
    go : (a : Bool) → digit? (byte_at t i) ≡ a → (b r : Bool)
        → Reads (NumberFrom limit i) (elim a [ false ↦ fault i | true ↦ elim b [ true ↦ cond r (fault (i + 1)) (got 0 (i + 1)) | false ↦ digits_from (length t - (i + 1)) limit t (digit_value (byte_at t i)) (i + 1) ] ])
    go false e b r = none_read
    go true e true true = none_read
    go true e true false = reads {v = 0} {e = i + 1} (omega arith)
    go true e false r =
        let d = digit_range (byte_at t i) e in
        read_as _ _ (λ n e p. (p.0, omega arith)) (digits_below limit t (length t - (i + 1)) (digit_value (byte_at t i)) (i + 1) (omega arith))

pub hex_below : (t : List ℕ) (n v i k : ℕ) → v < 16 ^ k → Reads (NumberFrom (16 ^ (k + n)) i) (hex_from n t v i)
unfolding hex_from
hex_below t zero v i k h = let e : k + 0 ≡ k = omega arith in reads {v = v} {e = i} (rw e h, le_refl i)
hex_below t (suc n) v i k h = go (hex_digit? (byte_at t i)) refl (λ d. next (hex_below t n (v * 16 + hex_value (byte_at t i)) (suc i) (suc k) (larger d)))
  where
    larger : hex_digit? (byte_at t i) ≡ true → v * 16 + hex_value (byte_at t i) < 16 ^ suc k
    larger d = let l = hex_value_below (byte_at t i) d in let p = pow-suc 16 k in omega arith

    next : {g : Got ℕ} → Reads (NumberFrom (16 ^ (suc k + n)) (suc i)) g → Reads (NumberFrom (16 ^ (k + suc n)) i) g
    next r = let q : suc k + n ≡ k + suc n = omega arith in read_as _ _ (λ x e p. (rw q at p.0, omega arith)) r

    go : (a : Bool) → hex_digit? (byte_at t i) ≡ a → (hex_digit? (byte_at t i) ≡ true → Reads (NumberFrom (16 ^ (k + suc n)) i) (hex_from n t (v * 16 + hex_value (byte_at t i)) (suc i)))
        → Reads (NumberFrom (16 ^ (k + suc n)) i) (elim a [ true ↦ hex_from n t (v * 16 + hex_value (byte_at t i)) (suc i) | false ↦ fault i ])
    go true e f = f e
    go false e f = none_read

-- after `=`, b being the byte at i
module _ (t : List ℕ) (i b : ℕ) (here : b ≡ byte_at t i) where
  pub value_true : b ≡ 116 → value_at t i ≡ word_at (scalar 1 1) (116 ∷ 114 ∷ 117 ∷ 101 ∷ []) t i
  unfolding value_at
  value_true e = let f : eqb (byte_at t i) 116 ≡ true = eq-eqb _ _ (sym here ∙ e) in rw (value_at, f)

  module _ (not_t : b ≡ 116 → ⊥) where
    pub value_false : b ≡ 102 → value_at t i ≡ word_at (scalar 1 0) (102 ∷ 97 ∷ 108 ∷ 115 ∷ 101 ∷ []) t i
    unfolding value_at
    value_false e =
        let f : eqb (byte_at t i) 116 ≡ false = ne_eqb _ _ (λ q. not_t (here ∙ q)) in
        let g : eqb (byte_at t i) 102 ≡ true = eq-eqb _ _ (sym here ∙ e) in
        rw (value_at, f, g)

    pub value_count : (b ≡ 102 → ⊥) → value_at t i ≡ of_kind 2 (number_at (2 ^ 64) t i)
    unfolding value_at
    value_count h =
        let f : eqb (byte_at t i) 116 ≡ false = ne_eqb _ _ (λ q. not_t (here ∙ q)) in
        let g : eqb (byte_at t i) 102 ≡ false = ne_eqb _ _ (λ q. h (here ∙ q)) in
        rw (value_at, f, g)

-- behind a name, b being the byte at i
module _ (t : List ℕ) (i b : ℕ) (here : b ≡ byte_at t i) where
  pub scalar_value : b ≡ 61 → scalar_at t i ≡ value_at t (i + 1)
  unfolding scalar_at
  scalar_value e = let f : eqb (byte_at t i) 61 ≡ true = eq-eqb _ _ (sym here ∙ e) in rw (scalar_at, f)

  module _ (not-equals : b ≡ 61 → ⊥) where
    not_61 : eqb (byte_at t i) 61 ≡ false
    not_61 = ne_eqb _ _ (λ q. not-equals (here ∙ q))

    pub scalar_rate : b ≡ 126 → scalar_at t i ≡ of_rate (hex_from 16 t 0 (i + 1))
    unfolding scalar_at
    scalar_rate e = let f : eqb (byte_at t i) 126 ≡ true = eq-eqb _ _ (sym here ∙ e) in rw (scalar_at, not_61, f)

    module _ (not-tilde : b ≡ 126 → ⊥) where
      not_126 : eqb (byte_at t i) 126 ≡ false
      not_126 = ne_eqb _ _ (λ q. not-tilde (here ∙ q))

      pub scalar_name : b ≡ 35 → scalar_at t i ≡ of_kind 4 (number_at (2 ^ 32) t (i + 1))
      unfolding scalar_at
      scalar_name e = let f : eqb (byte_at t i) 35 ≡ true = eq-eqb _ _ (sym here ∙ e) in rw (scalar_at, not_61, not_126, f)

      pub scalar_bare : (b ≡ 35 → ⊥) → got (scalar 0 0) i ≡ scalar_at t i
      unfolding scalar_at
      scalar_bare h = let f : eqb (byte_at t i) 35 ≡ false = ne_eqb _ _ (λ q. h (here ∙ q)) in rw (scalar_at, not_61, not_126, f)

-- a scalar of its kind, up to a place that is not before i
abbrev pub ScalarFrom : ℕ → Scalar → ℕ → Type 0
ScalarFrom i k e = T (scalar? k.kind k.payload) × (i ≤ e)

word_scalar : (k : Scalar) → T (scalar? k.kind k.payload) → (w t : List ℕ) (i : ℕ) → Reads (ScalarFrom i) (word_at k w t i)
unfolding word_at
word_scalar k s w t i = go (eqb (word_bytes w t i) (length w))
  where
    go : (b : Bool) → Reads (ScalarFrom i) (cond b (got k (i + word_bytes w t i)) (fault (i + word_bytes w t i)))
    go true = reads {v = k} {e = i + word_bytes w t i} (s, omega arith)
    go false = none_read

value_scalar : (t : List ℕ) (i : ℕ) → Reads (ScalarFrom i) (value_at t i)
unfolding value_at
value_scalar t i = go (eqb (byte_at t i) 116) (eqb (byte_at t i) 102)
  where
    go : (a b : Bool) → Reads (ScalarFrom i) (elim a [ true ↦ word_at (scalar 1 1) (116 ∷ 114 ∷ 117 ∷ 101 ∷ []) t i | false ↦ elim b [ true ↦ word_at (scalar 1 0) (102 ∷ 97 ∷ 108 ∷ 115 ∷ 101 ∷ []) t i | false ↦ of_kind 2 (number_at (2 ^ 64) t i) ] ])
    go true b = word_scalar (scalar 1 1) tt (116 ∷ 114 ∷ 117 ∷ 101 ∷ []) t i
    go false true = word_scalar (scalar 1 0) tt (102 ∷ 97 ∷ 108 ∷ 115 ∷ 101 ∷ []) t i
    go false false = read_kind (NumberFrom (2 ^ 64) i) (ScalarFrom i) 2 (λ n e p. (count_is n p.0, p.1)) (number_below (2 ^ 64) t i (omega arith))

-- What is read behind a name is a scalar.
pub scalar_reads : (t : List ℕ) (i : ℕ) → Reads (ScalarFrom i) (scalar_at t i)
unfolding scalar_at
scalar_reads t i = go (eqb (byte_at t i) 61) (eqb (byte_at t i) 126) (eqb (byte_at t i) 35)
  where
    go : (a b c : Bool) → Reads (ScalarFrom i) (elim a [ true ↦ value_at t (i + 1) | false ↦ elim b [ true ↦ of_rate (hex_from 16 t 0 (i + 1)) | false ↦ elim c [ true ↦ of_kind 4 (number_at (2 ^ 32) t (i + 1)) | false ↦ got (scalar 0 0) i ] ] ])
    go true b c = read_as (ScalarFrom (i + 1)) (ScalarFrom i) (λ k e p. (p.0, omega arith)) (value_scalar t (i + 1))
    go false true c = read_rate (NumberFrom (2 ^ 64) (i + 1)) (ScalarFrom i) (λ n e p. (rate_is n p.0, omega arith)) (hex_below t 16 0 (i + 1) 0 (omega arith))
    go false false true = read_kind (NumberFrom (2 ^ 32) (i + 1)) (ScalarFrom i) 4 (λ n e p. (name_is n p.0, omega arith)) (number_below (2 ^ 32) t (i + 1) (omega arith))
    go false false false = reads (tt, le_refl i)

-- a number's answer as a scalar's
module _ {r : Result (ℕ × ℕ) Fault} {g : Got ℕ} (read : number_of r ≡ g) where
  pub kind_number : (k : ℕ) (n : ℕ × ℕ) → r ≡ Ok n → got (scalar k n.0) n.1 ≡ of_kind k g
  kind_number k n q = ap (of_kind k) (sym (ap number_of q) ∙ read)

  pub kind_fault : (k : ℕ) (p : Fault) → r ≡ Err p → fault p.0 ≡ of_kind k g
  kind_fault k p q = ap (of_kind k) (sym (ap number_of q) ∙ read)

  -- a rate's answer as a scalar's
  pub rate_number : (s : Value) (n : ℕ × ℕ) → s ≡ row_rate n.0 → n.0 < 2 ^ 64 → r ≡ Ok n → got (scalar (kind_of s) (payload_of s)) n.1 ≡ of_rate g
  rate_number s n q h f =
      let k : kind_of s ≡ 3 = ap kind_of q ∙ kind_row_rate n.0 in
      let p : payload_of s ≡ one_zero n.0 = ap payload_of q ∙ payload_row_rate n.0 h in
      rw (k, p) (ap of_rate (sym (ap number_of f) ∙ read))

  pub rate_fault : (p : Fault) → r ≡ Err p → fault p.0 ≡ of_rate g
  rate_fault p f = ap of_rate (sym (ap number_of f) ∙ read)
