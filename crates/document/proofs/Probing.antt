-- The index finds what a plain scan finds, for any test, any start slots and any rows; and a row entered at its probe's empty slot is found. Assumes nothing.
use mathlib.Core.Path.{◌≡◌, refl, sym, ap, ◌∙◌, subst}
use mathlib.Core.Bool.{Bool, true, false, cond}
use mathlib.Core.Logic.{◌⊎◌, inl, inr, ⊎_elim}
use mathlib.Core.Option.{Option, none, some, map}
use mathlib.Core.List.{List, [], ◌∷◌}
use Prim.Native.Nat.{ℕ, zero, suc, ◌+◌, ◌-◌, ◌%◌, ◌<◌, ◌≤◌, zero-le}
use native.Mathlib.Nat.{eq-or-lt_of_le, mod-lt}
use native.Mathlib.Omega.{arith}
use lib.Dec.{T, eqb, eqb→eq}
use lib.ListN.{length, get_or, set, length-set, replicate, length-replicate}
use lib.Seq.{get_or-set_same, get_or-set_other}
use borrow.Author.Tests.{eqb-false}
use Rattle.document.specs.declared.index.Probed.{Probed}
use Rattle.document.specs.declared.index.Probed.TheVariants.{Found, Free, Crowded}
use Rattle.document.specs.Fields.{as_row}
use Rattle.document.specs.Index.{slot_count, slot_after, at_slot, probe_from, probe, filled, NoneEmpty, Reached, Indexed}

lt_or_le : (a b : ℕ) → (a < b) ⊎ (b ≤ a)
lt_or_le a zero = inr zero-le
lt_or_le zero (suc b) = inl (omega arith)
lt_or_le (suc a) (suc b) = ⊎_elim (λ l. inl (omega arith)) (λ l. inr (omega arith)) (lt_or_le a b)

eq_or_not : (a b : ℕ) → (a ≡ b) ⊎ (a ≡ b → ⊥)
eq_or_not a b = go (eqb a b) refl
  where
    go : (t : Bool) → eqb a b ≡ t → (a ≡ b) ⊎ (a ≡ b → ⊥)
    go true e = inl (eqb→eq a b (rw e tt))
    go false e = inr (eqb-false a b e)

not_true : (b : Bool) → (b ≡ true → ⊥) → b ≡ false
not_true true h = absurd (h refl)
not_true false h = refl

-- ---- a plain scan

-- the first number below n that passes the test
abbrev pub scan : ℕ → (ℕ → Bool) → Option ℕ
scan zero p = none
scan (suc n) p = cond (p 0) (some 0) (map suc (scan n (λ k. p (suc k))))

pub scan_none : (n : ℕ) (p : ℕ → Bool) → ((i : ℕ) → i < n → p i ≡ false) → scan n p ≡ none
scan_none zero p h = refl
scan_none (suc n) p h = rw (h 0 (omega arith), scan_none n (λ k. p (suc k)) (λ i l. h (suc i) (omega arith)))

pub scan_some : (n : ℕ) (p : ℕ → Bool) (i : ℕ) → i < n → p i ≡ true → ((j : ℕ) → j < i → p j ≡ false) → scan n p ≡ some i
scan_some zero p i l t h = let z : ⊥ = omega arith in absurd z
scan_some (suc n) p zero l t h = rw t
scan_some (suc n) p (suc i) l t h = rw (h 0 (omega arith), scan_some n (λ k. p (suc k)) i (omega arith) t (λ j m. h (suc j) (omega arith)))

-- ---- the probe's walk

module _ (slots : List ℕ) (same? : ℕ → Bool) (s : ℕ) where
  -- the slot d steps on holds a row that fails the test
  abbrev Passed : ℕ → Type 0
  Passed d = (i : ℕ) × (get_or slots (slot_after s d) 0 ≡ suc i) × (same? i ≡ false)

  -- what the probe met from step d on
  data Walk (d : ℕ) : Probed → Type 0 where
    met : (e i : ℕ) → get_or slots (slot_after s e) 0 ≡ suc i → same? i ≡ true → Walk d (Found (as_row i))
    opened : (e : ℕ) → d ≤ e → e < slot_count → get_or slots (slot_after s e) 0 ≡ 0 → ((x : ℕ) → d ≤ x → x < e → Passed x) → Walk d (Free (slot_after s e))
    crowded : ((x : ℕ) → d ≤ x → x < slot_count → Passed x) → Walk d Crowded

  onwards : (d : ℕ) → Passed d → {r : Probed} → Walk (suc d) r → Walk d r
  onwards d p (met e i h t) = met e i h t
  onwards d p (opened e l m z h) = opened e (omega arith) m z (λ x a b. ⊎_elim (λ q. subst Passed q p) (λ g. h x g b) (eq-or-lt_of_le a))
  onwards d p (crowded h) = crowded (λ x a b. ⊎_elim (λ q. subst Passed q p) (λ g. h x g b) (eq-or-lt_of_le a))

  at_slot_lem : (d v : ℕ) → d < slot_count → get_or slots (slot_after s d) 0 ≡ v → (next : Probed) → Walk (suc d) next → Walk d (at_slot same? v (Free (slot_after s d)) next)
  at_slot_lem d zero l e next w = opened d (omega arith) l e (λ x a b. let z : ⊥ = omega arith in absurd z)
  at_slot_lem d (suc i) l e next w = go (same? i) refl
    where
      go : (b : Bool) → same? i ≡ b → Walk d (cond b (Found (as_row i)) next)
      go true t = met d i e t
      go false f = onwards d (i, e, f) w

  walk : (d left : ℕ) → d + left ≡ slot_count → Walk d (probe_from slots same? s d left)
  unfolding probe_from
  walk d zero e = crowded (λ x a b. let z : ⊥ = omega arith in absurd z)
  walk d (suc left) e = at_slot_lem d (get_or slots (slot_after s d) 0) (omega arith) refl (probe_from slots same? s (suc d) left) (walk (suc d) left (omega arith))

-- ---- empty slots

filled_all : (slots : List ℕ) → ((t : ℕ) → t < length slots → get_or slots t 0 ≡ 0 → ⊥) → filled slots ≡ length slots
filled_all [] h = refl
filled_all (zero ∷ slots) h = absurd (h 0 (omega arith) refl)
filled_all (suc i ∷ slots) h = ap suc (filled_all slots (λ t l. h (suc t) (omega arith)))

filled_set : (slots : List ℕ) (t v : ℕ) → t < length slots → get_or slots t 0 ≡ 0 → filled (set slots t (suc v)) ≡ suc (filled slots)
filled_set [] t v h e = let z : ⊥ = omega arith in absurd z
filled_set (zero ∷ slots) zero v h e = refl
filled_set (suc i ∷ slots) zero v h e = let z : ⊥ = omega arith in absurd z
filled_set (zero ∷ slots) (suc t) v h e = filled_set slots t v (omega arith) e
filled_set (suc i ∷ slots) (suc t) v h e = ap suc (filled_set slots t v (omega arith) e)

filled_none : (n : ℕ) → filled (replicate n 0) ≡ 0
filled_none zero = refl
filled_none (suc n) = filled_none n

-- from any slot a walk comes to each slot
arrives : (s t : ℕ) → t < slot_count → (d : ℕ) × (d < slot_count) × (slot_after s d ≡ t)
arrives s t h = ((t + slot_count - s % slot_count) % slot_count, omega arith, omega arith)

get_d_zeros : (n t : ℕ) → ◌≡◌ {A = ℕ} (get_or (replicate n 0) t 0) 0
get_d_zeros zero t = refl
get_d_zeros (suc n) zero = refl
get_d_zeros (suc n) (suc t) = get_d_zeros n t

-- Empty slots are an index of no rows.
pub indexed_none : (start : ℕ → ℕ) → Indexed (replicate slot_count 0) 0 start
indexed_none start =
    record {
      size = length-replicate {A = ℕ} slot_count 0;
      held = λ t. let e = get_d_zeros slot_count t in omega arith;
      count = filled_none slot_count;
      reached = λ i l. let z : ⊥ = omega arith in absurd z;
    }

-- An index depends on the start slots of its rows alone.
pub indexed_same : {slots : List ℕ} {n : ℕ} (start start' : ℕ → ℕ) → ((i : ℕ) → i < n → start i ≡ start' i) → Indexed slots n start → Indexed slots n start'
indexed_same {slots} start start' h x =
    record {
      size = x.size;
      held = x.held;
      count = x.count;
      reached = λ i l. subst (Reached slots i) (h i l) (x.reached i l);
    }

-- ---- the probe and the scan

-- slot t is the first empty one from slot s on
pub record Opens (slots : List ℕ) (s t : ℕ) : Type 0 where
  pub steps : ℕ
  pub few : steps < slot_count
  pub here : t ≡ slot_after s steps
  pub empty : get_or slots t 0 ≡ 0
  pub before : NoneEmpty slots s steps

-- what a probe answers for rows below n: the one that a scan finds, or the slot for a row that no scan finds
pub data Answers (slots : List ℕ) (n : ℕ) (same? : ℕ → Bool) (s : ℕ) : Probed → Type 0 where
  known : (i : ℕ) → i < n → same? i ≡ true → scan n same? ≡ some i → Answers slots n same? s (Found (as_row i))
  free : (t : ℕ) → ((i : ℕ) → i < n → same? i ≡ false) → scan n same? ≡ none → Opens slots s t → Answers slots n same? s (Free t)

module _ (slots : List ℕ) (n : ℕ) (start : ℕ → ℕ) (same? : ℕ → Bool) (s : ℕ) (x : Indexed slots n start) (starts : (i : ℕ) → i < n → same? i ≡ true → start i ≡ s) where
  below : (e i : ℕ) → get_or slots (slot_after s e) 0 ≡ suc i → i < n
  below e i h = let l = x.held (slot_after s e) in omega arith

  -- no row passes the test where the walk from s passed every slot before the e-th, and that one is empty or past the last
  unmet : (e : ℕ) → e ≤ slot_count → (e < slot_count → get_or slots (slot_after s e) 0 ≡ 0) → ((d : ℕ) → d < e → Passed slots same? s d) → (i : ℕ) → i < n → same? i ≡ true → ⊥
  unmet e l z h i m t = go (x.reached i m) (starts i m t)
    where
      go : Reached slots i (start i) → start i ≡ s → ⊥
      go r q = ⊎_elim below_e above_e (lt_or_le r.steps e)
        where
          below_e : r.steps < e → ⊥
          below_e a =
              let (j, g, f) = h r.steps a in
              let there = rw q at r.there in
              let k : j ≡ i = omega arith in
              let w : true ≡ false = sym t ∙ ap same? (sym k) ∙ f in subst T w tt

          above_e : e ≤ r.steps → ⊥
          above_e a = ⊎_elim at_e (λ b. rw q at r.before e b (z (omega (arith, r.few)))) (eq-or-lt_of_le a)
            where
              at_e : e ≡ r.steps → ⊥
              at_e b = let there = rw (q, ← b) at r.there in let empty = z (omega (arith, r.few)) in omega arith

  crowded_not : n < slot_count → ((d : ℕ) → 0 ≤ d → d < slot_count → Passed slots same? s d) → ⊥
  crowded_not few h =
      let e = filled_all slots (λ t l q.
      let (d, m, a) = arrives s t (rw x.size at l) in
      let (j, g, f) = h d zero-le m in
      let y : get_or slots t 0 ≡ suc j = rw a at g in
      omega arith) in
      omega (arith, x.size, x.count)

  answered : n < slot_count → ((i j : ℕ) → i < n → j < n → same? i ≡ true → same? j ≡ true → i ≡ j) → {r : Probed} → Walk slots same? s 0 r → Answers slots n same? s r
  answered few one (met e i h t) =
      known i (below e i h) t
      (scan_some n same? i (below e i h) t (λ j l. not_true (same? j) (λ u. let q = one j i (omega (arith, below e i h)) (below e i h) u t in omega arith)))
  answered few one (opened e a m z h) =
      let none-same : (i : ℕ) → i < n → same? i ≡ false = λ i l. not_true (same? i) (unmet e (omega arith) (λ b. z) (λ d. h d zero-le) i l) in
      free (slot_after s e) none-same (scan_none n same? none-same)
      (record { steps = e; few = m; here = refl; empty = z; before = λ d l q. let (j, g, f) = h d zero-le l in omega arith })
  answered few one (crowded h) = absurd (crowded_not few h)

  -- The probe answers what a plain scan over the rows below n finds: where rows that pass the test start at slot s and at most one row passes it.
  pub answers : n < slot_count → ((i j : ℕ) → i < n → j < n → same? i ≡ true → same? j ≡ true → i ≡ j) → Answers slots n same? s (probe slots same? s)
  answers few one = answered few one (walk slots same? s 0 slot_count refl)

-- Row n, entered at the first empty slot from its start slot on, keeps the index.
module _ (slots : List ℕ) (n : ℕ) (start : ℕ → ℕ) (t : ℕ) (x : Indexed slots n start) (o : Opens slots (start n) t) where
  inside : t < length slots
  inside = rw (x.size, o.here) (mod-lt (start n + o.steps) {m = slot_count} (omega arith))

  still : (u : ℕ) → (get_or slots u 0 ≡ 0 → ⊥) → get_or (set slots t (suc n)) u 0 ≡ 0 → ⊥
  still u h z = ⊎_elim (λ e. let y = rw e at z in let w = get_or-set_same slots t (suc n) 0 inside in omega arith) (λ e. h (sym (get_or-set_other slots t u (suc n) 0 e) ∙ z)) (eq_or_not u t)

  reached_still : (i : ℕ) → Reached slots i (start i) → Reached (set slots t (suc n)) i (start i)
  reached_still i r =
      record {
        steps = r.steps;
        few = r.few;
        there = get_or-set_other slots t (slot_after (start i) r.steps) (suc n) 0 (λ e. let y = rw e at r.there in let z = o.empty in omega arith) ∙ r.there;
        before = λ d l. still (slot_after (start i) d) (r.before d l);
      }

  reached_new : Reached (set slots t (suc n)) n (start n)
  reached_new =
      record {
        steps = o.steps;
        few = o.few;
        there = rw (← o.here) (get_or-set_same slots t (suc n) 0 inside);
        before = λ d l. still (slot_after (start n) d) (o.before d l);
      }

  reached_at : (i : ℕ) → suc i ≡ suc n → Reached (set slots t (suc n)) i (start i)
  reached_at i e = let q : i ≡ n = omega arith in rw q reached_new

  held_new : (u : ℕ) → u ≡ t → get_or (set slots t (suc n)) u 0 ≤ suc n
  held_new u e = rw e (let h = get_or-set_same slots t (suc n) 0 inside in omega arith)

  pub indexed_more : Indexed (set slots t (suc n)) (suc n) start
  indexed_more =
      record {
        size = length-set slots t (suc n) ∙ x.size;
        held = λ u. ⊎_elim (held_new u) (λ e. let h = x.held u in let g = get_or-set_other slots t u (suc n) 0 e in omega arith) (eq_or_not u t);
        count = filled_set slots t n inside o.empty ∙ ap suc x.count;
        reached = λ i l. ⊎_elim (reached_at i) (λ m. reached_still i (x.reached i (omega arith))) (eq-or-lt_of_le l);
      }

-- a free slot is one of the slots
free_inside : {slots : List ℕ} {same? : ℕ → Bool} {s : ℕ} {q : Probed} → Walk slots same? s 0 q → (t : ℕ) → q ≡ Free t → t < slot_count
free_inside (met e i h g) t f = let z : ◌≡◌ {A = ℕ} 0 1 = cc in omega arith
free_inside {s = s} (opened e a m z h) t f = let q : slot_after s e ≡ t = cc in let l = mod-lt (s + e) {m = slot_count} (omega arith) in omega arith
free_inside (crowded h) t f = let z : ◌≡◌ {A = ℕ} 0 1 = cc in omega arith

pub slot_inside : (slots : List ℕ) (same? : ℕ → Bool) (s t : ℕ) → probe slots same? s ≡ Free t → t < slot_count
slot_inside slots same? s t = free_inside (walk slots same? s 0 slot_count refl) t
