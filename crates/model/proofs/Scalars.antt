-- Scalars kind by kind: what their payloads are at most, and which rates stand in rows. Assumes nothing.
use mathlib.Core.Path.{◌≡◌, refl, sym, ap, subst, ◌∙◌}
use mathlib.Core.List.{List}
use mathlib.Core.Logic.{◌⊎◌, inl, inr, ⊎_elim}
use mathlib.Core.Bool.{Bool, true, false, ◌&&◌, ◌||◌, not}
use Prim.Native.Nat.{ℕ, ◌^◌, ◌<◌}
use native.Mathlib.Omega.{arith}
use borrow.Author.Tests.{ne_eqb, lt-ltb, eqb-true, eqb-false}
use lib.Dec.{T, eqb, ltb, eqb→eq, ltb→lt}
use lib.ListN.{length}
use Rattle.model.specs.Automaton.{Automaton}
use Rattle.model.specs.Table.{Row, row_at, minus_zero, rate?, one_zero, scalar?, SoundTable}
use Rattle.model.proofs.Members.{T_and}

either : {C : Type 0} (a b : Bool) → (T a → C) → (T b → C) → T (a || b) → C
either true b f g h = f tt
either false b f g h = g h

-- A kind and a payload that are a scalar, by the test of each kind.
pub by_kind : (C : ℕ → Type 0) (p : ℕ) → (T (eqb p 0) → C 0) → (T (ltb p 2) → C 1) → (T (ltb p (2 ^ 64)) → C 2) → (T (rate? p) → C 3) → (T (ltb p (2 ^ 32)) → C 4) → (k : ℕ) → T (scalar? k p) → C k
by_kind C p bare flag count rate name k =
    either (is 0 (eqb p 0) || is 1 (ltb p 2) || is 2 (ltb p (2 ^ 64)) || is 3 (rate? p)) (is 4 (ltb p (2 ^ 32)))
    (either (is 0 (eqb p 0) || is 1 (ltb p 2) || is 2 (ltb p (2 ^ 64))) (is 3 (rate? p))
    (either (is 0 (eqb p 0) || is 1 (ltb p 2)) (is 2 (ltb p (2 ^ 64)))
    (either (is 0 (eqb p 0)) (is 1 (ltb p 2)) (of_kind_lem 0 (eqb p 0) bare) (of_kind_lem 1 (ltb p 2) flag))
    (of_kind_lem 2 (ltb p (2 ^ 64)) count))
    (of_kind_lem 3 (rate? p) rate))
    (of_kind_lem 4 (ltb p (2 ^ 32)) name)
  where
    is : ℕ → Bool → Bool
    is j test = eqb k j && test

    of_kind_lem : (j : ℕ) (test : Bool) → (T test → C j) → T (eqb k j && test) → C k
    of_kind_lem j test f h = let (e, t) = T_and (eqb k j) test h in subst C (sym (eqb→eq k j e)) (f t)

-- a rate that may stand in a row has 64 bits
pub rate_below : (p : ℕ) → T (rate? p) → p < 2 ^ 64
rate_below p h = ltb→lt p (2 ^ 64) (T_and (ltb p (2 ^ 64)) (not (eqb p minus_zero)) h).0

-- The kinds are five, and a payload has 64 bits.
pub few_scalars : (k p : ℕ) → T (scalar? k p) → (k < 5) × (p < 2 ^ 64)
few_scalars k p =
    by_kind (λ j. (j < 5) × (p < 2 ^ 64)) p
    (λ h. let e = eqb→eq p 0 h in (omega arith, omega arith))
    (λ h. let l = ltb→lt p 2 h in (omega arith, omega arith))
    (λ h. (omega arith, ltb→lt p (2 ^ 64) h))
    (λ h. (omega arith, rate_below p h))
    (λ h. let l = ltb→lt p (2 ^ 32) h in (omega arith, omega arith))
    k

not_minus : (p : ℕ) → T (rate? p) → p ≡ minus_zero → ⊥
not_minus p h e = rw e at h

-- Of all 64 bits, only minus zero may not stand in a row.
pub stands_exactly : (p : ℕ) → p < 2 ^ 64 → (T (rate? p) → p ≡ minus_zero → ⊥) × ((p ≡ minus_zero → ⊥) → T (rate? p))
stands_exactly p l = (not_minus p, λ n. rw (lt-ltb p (2 ^ 64) l, ne_eqb p minus_zero n) tt)

-- NO ROW OF A SOUND TABLE HOLDS MINUS ZERO.
pub none_holds : (A : Automaton) (rows : List Row) → SoundTable A rows → (i : ℕ) → i < length rows → (row_at rows i).kind ≡ 3 → (row_at rows i).payload ≡ minus_zero → ⊥
none_holds A rows sound i l kind payload = subst (λ b. T b) (λ j. scalar? (kind j) (payload j)) (sound.each i l).scalar

-- What a reader puts into a row: minus zero becomes zero, any other rate stays, and the result may stand there.
pub minus_zero_is_zero : one_zero minus_zero ≡ 0
unfolding one_zero
minus_zero_is_zero = refl

pub others_stay : (p : ℕ) → (p ≡ minus_zero → ⊥) → one_zero p ≡ p
unfolding one_zero
others_stay p n = rw (ne_eqb p minus_zero n)

pub standing_stays : (p : ℕ) → T (rate? p) → one_zero p ≡ p
standing_stays p h = others_stay p (not_minus p h)

minus_or_other : {C : Type 0} (p : ℕ) → (p ≡ minus_zero → C) → ((p ≡ minus_zero → ⊥) → C) → C
minus_or_other {C} p f g = go (eqb p minus_zero) refl
  where
    go : (b : Bool) → eqb p minus_zero ≡ b → C
    go true e = f (eqb-true p minus_zero e)
    go false e = g (eqb-false p minus_zero e)

pub one_zero_stands : (p : ℕ) → p < 2 ^ 64 → T (rate? (one_zero p))
one_zero_stands p l = minus_or_other p (λ e. rw (e, minus_zero_is_zero) tt) (λ n. rw (others_stay p n) ((stands_exactly p l).1 n))

-- the two zeros
abbrev pub Zero : ℕ → Type 0
Zero p = (p ≡ 0) ⊎ (p ≡ minus_zero)

zero_is : (p : ℕ) → Zero p → one_zero p ≡ 0
zero_is p (inl e) = rw e (others_stay 0 (λ q. omega arith))
zero_is p (inr e) = rw e minus_zero_is_zero

is_zero : (p : ℕ) → one_zero p ≡ 0 → Zero p
is_zero p h = minus_or_other p inr (λ n. inl (sym (others_stay p n) ∙ h))

-- Two rates come to the same in a row exactly when all bits agree, or both are zeros.
pub same_load : (p q : ℕ) → (one_zero p ≡ one_zero q → (p ≡ q) ⊎ (Zero p × Zero q)) × ((p ≡ q) ⊎ (Zero p × Zero q) → one_zero p ≡ one_zero q)
same_load p q = (apart, ⊎_elim (ap one_zero) (λ (x, y). zero_is p x ∙ sym (zero_is q y)))
  where
    apart : one_zero p ≡ one_zero q → (p ≡ q) ⊎ (Zero p × Zero q)
    apart e =
        minus_or_other p
        (λ a. inr (inr a, is_zero q (sym e ∙ zero_is p (inr a))))
        (λ n. minus_or_other q (λ b. inr (is_zero p (e ∙ zero_is q (inr b)), inr b)) (λ m. inl (sym (others_stay p n) ∙ e ∙ others_stay q m)))
