-- The lists of places by state: how they are made, and that following one tries every rule that names the state. Assumes nothing.
use mathlib.Core.Path.{◌≡◌, refl, sym, ap, ◌∙◌, subst}
use mathlib.Core.List.{List}
use mathlib.Core.Logic.{⊎_elim}
use mathlib.Core.Bool.{Bool, ◌&&◌, ◌||◌}
use Prim.Native.Nat.{ℕ, zero, suc, ◌+◌, ◌*◌, ◌-◌, ◌/◌, ◌%◌, ◌<◌, ◌≤◌}
use native.Mathlib.Numerals.{add-one}
use native.Mathlib.Decide.{ℕ_discrete, dec_lt}
use native.Mathlib.Omega.{arith}
use borrow.Author.Rules.{rules}
use borrow.Author.Tests.{leb-true, le-leb}
use lib.Dec.{T, eqb, leb, eqb→eq, eqb_refl}
use lib.ListN.{length, get_or, set, replicate, length-set}
use lib.Seq.{get_or-set_same, get_or-set_other}
use Rattle.model.specs.Limits.{max_children, max_states, max_rules}
use Rattle.model.specs.Automaton.{Automaton}
use Rattle.model.specs.Order.{place}
use Rattle.model.specs.Written.{rule_at}
use Rattle.model.proofs.Members.{T_true, T_and, and_T, or_left, or_right}
use Rattle.model.proofs.Below.{any_below_lem, below_any}
use Rattle.automaton.specs.Stored.{decode}
use Rattle.automaton.specs.Check.{check_of}
use Rattle.automaton.proofs.Sound.{sound_decode}
use Rattle.emptiness.specs.Places.{child_at, places_of, named?, Last, Linked}
use Rattle.emptiness.specs.Marking.{Tries, this?}
use Rattle.emptiness.proofs.Tries.{T-or, tried_fewer}

pub child_at_lem : (A : Automaton) (p c : ℕ) → c ≡ place (rule_at A (p / max_children)) (p % max_children) → c ≡ child_at A p
unfolding child_at
child_at_lem A p c e = e

-- place k of rule i has number 4 i + k
pub place_number : (A : Automaton) (i k : ℕ) → k < max_children → child_at A (i * max_children + k) ≡ place (rule_at A i) k
unfolding child_at
place_number A i k l =
    let a : (i * max_children + k) / max_children ≡ i = omega arith in
    let b : (i * max_children + k) % max_children ≡ k = omega arith in
    ap (λ z. place (rule_at A z) ((i * max_children + k) % max_children)) a ∙ ap (place (rule_at A i)) b

module _ (A : Automaton) where
  last_none : (q : ℕ) → Last A q 0 0
  last_none q = record { inside = omega arith; names = λ y e. let z : ⊥ = omega arith in absurd z; no_later = λ y a l. let z : ⊥ = omega arith in absurd z }

  -- a place more, which names the state or does not
  last_other : (q p x : ℕ) → Last A q p x → (child_at A p ≡ q → ⊥) → Last A q (suc p) x
  last_other q p x L h = record { inside = omega (arith, L.inside); names = L.names; no_later = λ y a l. go y a l (ℕ_discrete y p) }
    where
      go : (y : ℕ) → x ≤ y → y < suc p → Dec (y ≡ p) → child_at A y ≡ q → ⊥
      go y a l (yes g) e = h (ap (child_at A) (sym g) ∙ e)
      go y a l (no g) e = L.no_later y a (omega arith) e

  last_this : (q p : ℕ) → child_at A p ≡ q → Last A q (suc p) (suc p)
  last_this q p e = record { inside = omega arith; names = λ y f. let g : p ≡ y = omega arith in ap (child_at A) (sym g) ∙ e; no_later = λ y a l. let z : ⊥ = omega arith in absurd z }

  module _ (p q : ℕ) (last before : List ℕ) (eq : q ≡ child_at A p) where
    pub linked_past : (a : ℕ) → a ≡ q → 256 ≤ a → Linked A p last before → Linked A (p + 1) last before
    linked_past a ea l L = rw add-one (record {
      for_states = L.for_states;
      for_places = L.for_places;
      lasts = λ c lc. last_other c p (get_or last c 0) (L.lasts c lc) (λ e. let f : c ≡ q = sym e ∙ sym eq in let z : ⊥ = omega arith in z);
      befores = λ y ly. go y ly (ℕ_discrete y p);
    })
      where
        go : (y : ℕ) → y < suc p → Dec (y ≡ p) → child_at A y < max_states → Last A (child_at A y) y (get_or before y 0)
        go y ly (yes g) h = let f : child_at A y ≡ q = ap (child_at A) g ∙ sym eq in let z : ⊥ = omega arith in absurd z
        go y ly (no g) h = L.befores y (omega arith) h

    pub linked_more : (a at x : ℕ) → a ≡ q → a < 256 → at ≡ p → p < 4096 → x ≡ get_or last a 0 → Linked A p last before → Linked A (p + 1) (set last a (p + 1)) (set before at x)
    linked_more a at x ea l et lp ex L =
        subst (λ z. Linked A (p + 1) (set last a (p + 1)) (set before z x)) (sym et)
        (subst (λ z. Linked A z (set last a z) (set before p x)) (sym (add-one p))
        (record {
          for_states = length-set last a (suc p) ∙ L.for_states;
          for_places = length-set before p x ∙ L.for_places;
          lasts = λ c lc. state c lc (ℕ_discrete c a);
          befores = λ y ly. place_before y ly (ℕ_discrete y p);
        }))
      where
        state : (c : ℕ) → c < max_states → Dec (c ≡ a) → Last A c (suc p) (get_or (set last a (suc p)) c 0)
        state c lc (yes g) =
            subst (λ z. Last A z (suc p) (get_or (set last a (suc p)) z 0)) (sym g)
            (subst (Last A a (suc p)) (sym (get_or-set_same last a (suc p) 0 (omega (arith, L.for_states)))) (last_this a p (sym eq ∙ sym ea)))
        state c lc (no g) = subst (Last A c (suc p)) (sym (get_or-set_other last a c (suc p) 0 g)) (last_other c p (get_or last c 0) (L.lasts c lc) (λ e. g (sym e ∙ sym eq ∙ sym ea)))

        place_before : (y : ℕ) → y < suc p → Dec (y ≡ p) → child_at A y < max_states → Last A (child_at A y) y (get_or (set before p x) y 0)
        place_before y ly (yes g) h =
            subst (λ z. Last A (child_at A z) z (get_or (set before p x) z 0)) (sym g)
            (subst (Last A (child_at A p) p) (sym (get_or-set_same before p x 0 (omega (arith, L.for_places)) ∙ ex))
            (subst (λ z. Last A z p (get_or last a 0)) (ea ∙ eq) (L.lasts a (omega arith))))
        place_before y ly (no g) h = subst (Last A (child_at A y) y) (sym (get_or-set_other before p y x 0 g)) (L.befores y (omega arith) h)

  pub linked_all : (p n r : ℕ) (last before : List ℕ) → p ≤ n → n ≤ p → n ≡ r * 4 → r ≡ length A.rules → Linked A p last before → Linked A (places_of A) last before
  linked_all p n r last before l g e er L = let h : p ≡ places_of A = omega arith in subst (λ z. Linked A z last before) h L

pub few_places : (s : List ℕ) (r : ℕ) → check_of s ≡ 0 → r ≡ length (decode s).rules → r * 4 < 65536
few_places s r c e = omega (arith, (sound_decode s c).few_rules)

pub place_small : (s : List ℕ) (r n p : ℕ) → check_of s ≡ 0 → r ≡ length (decode s).rules → n ≡ r * 4 → p < n → p < 4096
place_small s r n p c e en l = omega (arith, (sound_decode s c).few_rules)

pub zeros : (n q : ℕ) → ◌≡◌ {A = ℕ} (get_or (replicate n 0) q 0) 0
zeros zero q = refl
zeros (suc n) zero = refl
zeros (suc n) (suc q) = zeros n q

pub zeros_long : (n : ℕ) → length {A = ℕ} (replicate n 0) ≡ n
zeros_long zero = refl
zeros_long (suc n) = ap suc (zeros_long n)

pub linked_none : (A : Automaton) → Linked A 0 (replicate max_states 0) (replicate 4096 0)
linked_none A = linked max_states 4096 (zeros_long max_states) (zeros_long 4096)
  where
    linked : (m k : ℕ) → length {A = ℕ} (replicate m 0) ≡ max_states → length {A = ℕ} (replicate k 0) ≡ max_rules * max_children → Linked A 0 (replicate m 0) (replicate k 0)
    linked m k em ek =
        record {
          for_states = em;
          for_places = ek;
          lasts = λ q l. subst (Last A q 0) (sym (zeros m q)) (last_none A q);
          befores = λ y l. let z : ⊥ = omega arith in absurd z;
        }

-- following the list of state q: the places from number x on were met
pub record Following (A : Automaton) (marks : List ℕ) (q x : ℕ) (next₀ added₀ : List ℕ) (n₀ : ℕ) (next added : List ℕ) (n : ℕ) : Type 0 where
  pub small : q < max_states
  pub inside : x ≤ places_of A
  pub names : (y : ℕ) → x ≡ suc y → child_at A y ≡ q
  pub tries : Tries A marks (named? A q x) next₀ added₀ n₀ next added n

module _ (A : Automaton) (marks : List ℕ) (q : ℕ) where
  -- a rule that names q at place y from x on
  named_at : (x i : ℕ) → T (named? A q x i) → (k : ℕ) × (k < max_children) × (x ≤ i * max_children + k) × (child_at A (i * max_children + k) ≡ q)
  unfolding named?
  named_at x i t =
      let (k, l, h) = any_below_lem max_children (λ k. leb x (i * max_children + k) && eqb (place (rule_at A i) k) q) t in
      let (a, b) = T_and (leb x (i * max_children + k)) (eqb (place (rule_at A i) k) q) h in
      (k, l, leb-true x (i * max_children + k) ((T_true (leb x (i * max_children + k))).0 a), place_number A i k l ∙ eqb→eq (place (rule_at A i) k) q b)

  pub at_named : (x i k : ℕ) → k < max_children → x ≤ i * max_children + k → child_at A (i * max_children + k) ≡ q → T (named? A q x i)
  unfolding named?
  at_named x i k l a e =
      below_any max_children (λ k. leb x (i * max_children + k) && eqb (place (rule_at A i) k) q) k l
      (and_T (leb x (i * max_children + k)) (eqb (place (rule_at A i) k) q) ((T_true (leb x (i * max_children + k))).1 (le-leb x (i * max_children + k) a)) (subst (λ z. T (eqb z q)) (sym e ∙ place_number A i k l) (eqb_refl q)))

  module _ (last before next₀ added₀ : List ℕ) (n₀ : ℕ) (L : Linked A (places_of A) last before) where
    follow_start : (x : ℕ) → q < 256 → x ≡ get_or last q 0 → Following A marks q x next₀ added₀ n₀ next₀ added₀ n₀
    follow_start x l ex =
        let M : Last A q (places_of A) x = subst (Last A q (places_of A)) (sym ex) (L.lasts q l) in
        record {
          small = l;
          inside = M.inside;
          names = M.names;
          tries = record {
            gives = λ done t.
                tried_fewer A marks done (λ j. done j || named? A q x j) next₀ added₀ n₀
                (λ p j R e d. ⊎_elim (λ g. g) (λ g. let (k, lk, a, c) = named_at x j g in absurd (M.no_later (j * max_children + k) a (omega (arith, R.known)) c)) (T-or (done j) (named? A q x j) d))
                t;
          };
        }

    module _ (x p : ℕ) (next added : List ℕ) (n : ℕ) (F : Following A marks q x next₀ added₀ n₀ next added n) (h : x ≡ 0 → ⊥) (ep : p ≡ x - 1) where
      one_less : x ≡ suc p
      one_less = go x h ep
        where
          go : (x : ℕ) → (x ≡ 0 → ⊥) → p ≡ x - 1 → x ≡ suc p
          go zero h e = absurd (h refl)
          go (suc y) h e = omega arith

      M : Last A q p (get_or before p 0)
      M = subst (λ z. Last A z p (get_or before p 0)) (F.names p one_less) (L.befores p (omega (arith, one_less, F.inside)) (let e = F.names p one_less in omega (arith, F.small)))

      follow_less : (y : ℕ) → y ≡ get_or before p 0 → y < x
      follow_less y ey = omega (arith, M.inside, one_less)

      rule_known : (i : ℕ) → i ≡ p / 4 → i < length A.rules
      rule_known i ei = omega (arith, F.inside, one_less)

      follow_more : (i y n' : ℕ) (next' added' : List ℕ) → i ≡ p / 4 → y ≡ get_or before p 0 → Tries A marks (this? i) next added n next' added' n' → Following A marks q y next₀ added₀ n₀ next' added' n'
      unfolding this?
      follow_more i y n' next' added' ei ey T' =
          let N : Last A q p y = subst (Last A q p) (sym ey) M in
          record {
            small = F.small;
            inside = omega (arith, N.inside, F.inside, one_less);
            names = N.names;
            tries = record {
              gives = λ done t.
                  tried_fewer A marks (λ j. (done j || named? A q x j) || eqb j i) (λ j. done j || named? A q y j) next' added' n'
                  (λ c j R e d. ⊎_elim (λ g. or_left (done j || named? A q x j) (eqb j i) (or_left (done j) (named? A q x j) g)) (λ g. again N done j g) (T-or (done j) (named? A q y j) d))
                  (T'.gives (λ j. done j || named? A q x j) (F.tries.gives done t));
            };
          }
        where
          again : Last A q p y → (done : ℕ → Bool) → (j : ℕ) → T (named? A q y j) → T ((done j || named? A q x j) || eqb j i)
          again N done j g =
              let (k, lk, a, e) = named_at y j g in
              go k lk a e (dec_lt (j * max_children + k) p) (ℕ_discrete (j * max_children + k) p)
            where
              go : (k : ℕ) → k < max_children → y ≤ j * max_children + k → child_at A (j * max_children + k) ≡ q → Dec (j * max_children + k < p) → Dec (j * max_children + k ≡ p) → T ((done j || named? A q x j) || eqb j i)
              go k lk a e (yes l) d = absurd (N.no_later (j * max_children + k) a l e)
              go k lk a e (no l) (yes c) = let f : i ≡ j = omega arith in or_right (done j || named? A q x j) (eqb j i) (subst (λ z. T (eqb j z)) (sym f) (eqb_refl j))
              go k lk a e (no l) (no c) = or_left (done j || named? A q x j) (eqb j i) (or_right (done j) (named? A q x j) (at_named x j k lk (omega (arith, one_less)) e))

    follow_end : (x n : ℕ) (next added : List ℕ) → x ≡ 0 → Following A marks q x next₀ added₀ n₀ next added n → q < max_states → Tries A marks (named? A q 0) next₀ added₀ n₀ next added n
    follow_end x n next added e F l = subst (λ z. Tries A marks (named? A q z) next₀ added₀ n₀ next added n) e F.tries

-- the same of whichever state's list begins at number x₀
pub record Follows (A : Automaton) (marks last : List ℕ) (x₀ x : ℕ) (next₀ added₀ : List ℕ) (n₀ : ℕ) (next added : List ℕ) (n : ℕ) : Type 0 where
  pub gives : (q : ℕ) → q < max_states → x₀ ≡ get_or last q 0 → Following A marks q x next₀ added₀ n₀ next added n

module _ (A : Automaton) (marks last before next₀ added₀ : List ℕ) (n₀ x₀ : ℕ) (L : Linked A (places_of A) last before) where
  pub follows_start : Follows A marks last x₀ x₀ next₀ added₀ n₀ next₀ added₀ n₀
  follows_start = record { gives = λ q l e. follow_start A marks q last before next₀ added₀ n₀ L x₀ l e }

  module _ (x p : ℕ) (next added : List ℕ) (n : ℕ) (F : Follows A marks last x₀ x next₀ added₀ n₀ next added n) (h : x ≡ 0 → ⊥) (ep : p ≡ x - 1) where
    pub follows_more : (i y n' : ℕ) (next' added' : List ℕ) → i ≡ p / 4 → y ≡ get_or before p 0 → Tries A marks (this? i) next added n next' added' n' → Follows A marks last x₀ y next₀ added₀ n₀ next' added' n'
    follows_more i y n' next' added' ei ey T' = record { gives = λ q l e. follow_more A marks q last before next₀ added₀ n₀ L x p next added n (F.gives q l e) h ep i y n' next' added' ei ey T' }

    module _ (q : ℕ) (e : x₀ ≡ get_or last q 0) (l : q < 256) where
      pub follows_less : (y : ℕ) → y ≡ get_or before p 0 → y < x
      follows_less = follow_less A marks q last before next₀ added₀ n₀ L x p next added n (F.gives q l e) h ep

      pub rule_in_lem : (i : ℕ) → i ≡ p / 4 → i < length A.rules
      rule_in_lem = rule_known A marks q last before next₀ added₀ n₀ L x p next added n (F.gives q l e) h ep

  pub follows_end : (q x n : ℕ) (next added : List ℕ) → x ≡ 0 → x₀ ≡ get_or last q 0 → Follows A marks last x₀ x next₀ added₀ n₀ next added n → q < max_states → Tries A marks (named? A q 0) next₀ added₀ n₀ next added n
  follows_end q x n next added z e F l = follow_end A marks q last before next₀ added₀ n₀ L x n next added z (F.gives q l e) l

-- a number that is no state's names nothing
pub no_state_lem : (A : Automaton) (marks : List ℕ) (q : ℕ) (next added : List ℕ) (n : ℕ) → 256 ≤ q → q < max_states → Tries A marks (named? A q 0) next added n next added n
no_state_lem A marks q next added n l g = let z : ⊥ = omega arith in absurd z

pub ruleset linking = (child_at_lem, linked_past, linked_more, rules)

pub ruleset following = (sound_decode, follows_start, follows_less, rule_in_lem, follows_more, follows_end, no_state_lem, rules)
