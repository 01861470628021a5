-- One pass over the states tells whether two of them share a tag: a state's tags meet those seen so far exactly where it shares one with a lower state. Assumes nothing.
use mathlib.Core.Path.{◌≡◌, refl, sym, ap, ◌∙◌, subst}
use mathlib.Core.List.{List}
use mathlib.Core.Bool.{Bool, true, false, ◌&&◌, not}
use mathlib.Core.Logic.{⊎_elim}
use Prim.Native.Nat.{ℕ, zero, suc, ◌+◌, ◌/◌, ◌%◌, ◌^◌, ◌<◌, ◌≤◌, min, max}
use native.Mathlib.Nat.{zero-div, div-div-eq-div-mul, pow-suc, pow-succ', eq-or-lt_of_le, le_of_suc-le-suc, not-suc-le-zero}
use native.Mathlib.Numerals.{add-one}
use native.Mathlib.Decide.{ℕ_discrete}
use native.Mathlib.Omega.{arith}
use borrow.Author.Rules.{rules}
use borrow.Author.Tests.{eq-eqb}
use lib.Dec.{T, T_not, not_T, eqb, eqb→eq}
use lib.Bits.{bit_and, bit_or, and_step, or_step, and_shr, or_shr, and_le_r}
use lib.ListN.{length}
use Rattle.model.specs.Lists.{all_below}
use Rattle.model.specs.Automaton.{Automaton, state_at, bit?, carries?}
use Rattle.model.specs.Sound.{Sound}
use Rattle.model.specs.Witness.{apart?}
use Rattle.model.proofs.Members.{T_true, T_and, and_T}
use Rattle.model.proofs.Below.{Passed, passed_none, passed_more, passed_all, stopped, all_at, all_of}
use Rattle.automaton.specs.Stored.{decode}
use Rattle.automaton.specs.Check.{check_of}
use Rattle.automaton.proofs.Sound.{sound_decode}
use Rattle.emptiness.specs.Tags.{seen_below, apart_at?}

same_bool : (a b : Bool) → (T a → T b) → (T b → T a) → a ≡ b
same_bool true true f g = refl
same_bool false false f g = refl
same_bool true false f g = absurd (f tt)
same_bool false true f g = absurd (g tt)

-- bit k of the masks a and b together
low_and : (x y : ℕ) → bit_and x y % 2 ≡ min (x % 2) (y % 2)
low_and x y = omega (arith, and_step x y)

low_or : (x y : ℕ) → bit_or x y % 2 ≡ max (x % 2) (y % 2)
low_or x y = omega (arith, or_step x y)

and_bit : (a b k : ℕ) → bit_and a b / 2 ^ k % 2 ≡ min (a / 2 ^ k % 2) (b / 2 ^ k % 2)
and_bit a b k = ap (λ x. x % 2) (and_shr a b k) ∙ low_and (a / 2 ^ k) (b / 2 ^ k)

or_bit : (a b k : ℕ) → bit_or a b / 2 ^ k % 2 ≡ max (a / 2 ^ k % 2) (b / 2 ^ k % 2)
or_bit a b k = ap (λ x. x % 2) (or_shr a b k) ∙ low_or (a / 2 ^ k) (b / 2 ^ k)

one : (x k : ℕ) → T (bit? x k) → x / 2 ^ k % 2 ≡ 1
one x k h = eqb→eq (x / 2 ^ k % 2) 1 h

is_one : (x k : ℕ) → x / 2 ^ k % 2 ≡ 1 → T (bit? x k)
is_one x k e = (T_true (bit? x k)).1 (eq-eqb (x / 2 ^ k % 2) 1 e)

-- a number below 2 ^ n whose bits are all 0
no_bits : (n x : ℕ) → x < 2 ^ n → ((k : ℕ) → k < n → x / 2 ^ k % 2 ≡ 0) → x ≡ 0
no_bits zero x l h = omega arith
no_bits (suc n) x l h =
    let e : x / 2 ≡ 0 =
    no_bits n (x / 2) (omega (arith, pow-suc 2 n))
    (λ k lk. ap (λ z. z % 2) (div-div-eq-div-mul x 2 (2 ^ k) ∙ ap (λ z. x / z) (sym (pow-succ' 2 k))) ∙ h (suc k) (omega arith)) in
    let f : x / 1 % 2 ≡ 0 = h 0 (omega arith) in
    omega arith

module _ (A : Automaton) where
  -- the tags seen are those that a lower state carries
  seen_by : (q k : ℕ) → T (bit? (seen_below A q) k) → (p : ℕ) × (p < q) × T (carries? A p k)
  unfolding seen_below
  seen_by zero k h = let e = one 0 k h in let f = zero-div (2 ^ k) in let z : ⊥ = subst (λ x. x % 2 ≡ 1 → ⊥) (sym f) (λ w. omega arith) e in absurd z
  seen_by (suc q) k h = go (ℕ_discrete (seen_below A q / 2 ^ k % 2) 1) (one (seen_below A (suc q)) k h) (seen_by q k)
    where
      go : Dec (seen_below A q / 2 ^ k % 2 ≡ 1) → bit_or (seen_below A q) (state_at A q).mask / 2 ^ k % 2 ≡ 1 → (T (bit? (seen_below A q) k) → (p : ℕ) × (p < q) × T (carries? A p k)) → (p : ℕ) × (p < suc q) × T (carries? A p k)
      go (yes e) f ih = let (p, l, c) = ih (is_one (seen_below A q) k e) in (p, omega arith, c)
      go (no e) f ih = (q, omega arith, is_one (state_at A q).mask k (let b = or_bit (seen_below A q) (state_at A q).mask k in omega arith))

  by_seen : (q k p : ℕ) → p < q → T (carries? A p k) → T (bit? (seen_below A q) k)
  unfolding seen_below
  by_seen zero k p l c = absurd (not-suc-le-zero l)
  by_seen (suc q) k p l c =
      is_one (seen_below A (suc q)) k
      (let b = or_bit (seen_below A q) (state_at A q).mask k in
      ⊎_elim
      (λ e. let f = one (state_at A q).mask k (subst (λ z. T (carries? A z k)) e c) in omega arith)
      (λ g. let f = one (seen_below A q) k (by_seen q k p g c) in omega arith)
      (eq-or-lt_of_le (le_of_suc-le-suc l)))

  module _ (sound : Sound A) (q : ℕ) where
    meets : T (eqb (bit_and (seen_below A q) (state_at A q).mask) 0) → T (apart_at? A q)
    meets h =
        all_of q _
        (λ p lp. all_of A.tags _
        (λ k lk. not_T (carries? A p k && carries? A q k)
        (λ c.
        let (cp, cq) = T_and (carries? A p k) (carries? A q k) c in
        let e = eqb→eq (bit_and (seen_below A q) (state_at A q).mask) 0 h in
        let b = and_bit (seen_below A q) (state_at A q).mask k in
        let x = one (seen_below A q) k (by_seen q k p lp cp) in
        let y = one (state_at A q).mask k cq in
        let z = ap (λ w. w / 2 ^ k % 2) e ∙ ap (λ w. w % 2) (zero-div (2 ^ k)) in
        omega arith)))

    apart_bits : T (apart_at? A q) → bit_and (seen_below A q) (state_at A q).mask ≡ 0
    apart_bits h =
        no_bits A.tags (bit_and (seen_below A q) (state_at A q).mask) (let a = and_le_r (seen_below A q) (state_at A q).mask in let b = sound.wellformed.masks q in omega arith)
        (λ k lk. go k lk (ℕ_discrete (seen_below A q / 2 ^ k % 2) 1) (ℕ_discrete ((state_at A q).mask / 2 ^ k % 2) 1) (and_bit (seen_below A q) (state_at A q).mask k))
      where
        go : (k : ℕ) → k < A.tags → Dec (seen_below A q / 2 ^ k % 2 ≡ 1) → Dec ((state_at A q).mask / 2 ^ k % 2 ≡ 1) → bit_and (seen_below A q) (state_at A q).mask / 2 ^ k % 2 ≡ min (seen_below A q / 2 ^ k % 2) ((state_at A q).mask / 2 ^ k % 2) → bit_and (seen_below A q) (state_at A q).mask / 2 ^ k % 2 ≡ 0
        go k lk (no e) d b = omega arith
        go k lk (yes e) (no f) b = omega arith
        go k lk (yes e) (yes f) b =
            let (p, lp, cp) = seen_by q k (is_one (seen_below A q) k e) in
            absurd
            (T_not (carries? A p k && carries? A q k)
            (all_at A.tags (λ k. not (carries? A p k && carries? A q k)) (all_at q (λ p. all_below A.tags (λ k. not (carries? A p k && carries? A q k))) h p lp) k lk)
            (and_T (carries? A p k) (carries? A q k) cp (is_one (state_at A q).mask k f)))

    pub apart_here : eqb (bit_and (seen_below A q) (state_at A q).mask) 0 ≡ apart_at? A q
    apart_here = same_bool _ _ meets (λ h. (T_true (eqb (bit_and (seen_below A q) (state_at A q).mask) 0)).1 (eq-eqb _ 0 (apart_bits h)))

-- at the loop's head: the states below q share no tag, and `seen` has their tags
pub record Looked (A : Automaton) (n seen q : ℕ) : Type 0 where
  pub passed : Passed (apart_at? A) (length A.states) n q
  pub tags : seen ≡ seen_below A q

module _ (s : List ℕ) (n : ℕ) where
  pub looked_none : n ≡ length (decode s).states → Looked (decode s) n 0 0
  unfolding seen_below
  looked_none e = record { passed = passed_none (apart_at? (decode s)) (length (decode s).states) n e; tags = refl }

  pub looked_all : (seen q : ℕ) → Looked (decode s) n seen q → n ≤ q → true ≡ apart? (decode s)
  looked_all seen q h l = passed_all (apart_at? (decode s)) (length (decode s).states) n q h.passed l

  module _ (seen q t : ℕ) (b : Bool) (h : Looked (decode s) n seen q) (l : q < n) (et : t ≡ (state_at (decode s) q).mask) (eb : b ≡ eqb (bit_and seen t) 0) (sound : check_of s ≡ 0) where
    told : b ≡ apart_at? (decode s) q
    told = eb ∙ ap (λ x. eqb (bit_and x t) 0) h.tags ∙ ap (λ x. eqb (bit_and (seen_below (decode s) q) x) 0) et ∙ apart_here (decode s) (sound_decode s sound) q

    pub looked_more : (more : ℕ) → more ≡ bit_or seen t → b ≡ true → Looked (decode s) n more (q + 1)
    unfolding seen_below
    looked_more more em tb =
        record {
          passed = passed_more (apart_at? (decode s)) (length (decode s).states) n q b h.passed l told tb;
          tags = rw add-one (em ∙ ap (λ x. bit_or x t) h.tags ∙ ap (bit_or (seen_below (decode s) q)) et);
        }

    pub looked_shared : b ≡ false → false ≡ apart? (decode s)
    looked_shared f = stopped (apart_at? (decode s)) (length (decode s).states) n q b h.passed l told f

pub ruleset looking = (looked_none, looked_all, looked_more, looked_shared, rules)
