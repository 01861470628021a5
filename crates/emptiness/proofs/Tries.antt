-- Trying rules in a round: what each way out of a try leaves true, in whatever order the rules come. Assumes nothing.
use mathlib.Core.Path.{◌≡◌, refl, sym, ap, ◌∙◌, subst}
use mathlib.Core.List.{List, ◌∷◌, Memᴰ as In}
use mathlib.Core.Logic.{◌⊎◌, inl, inr, ⊎_elim}
use mathlib.Core.Bool.{Bool, true, false, ◌||◌}
use Prim.Native.Nat.{ℕ, zero, suc, ◌+◌, ◌<◌, ◌≤◌}
use native.Mathlib.Numerals.{add-one}
use native.Mathlib.Decide.{ℕ_discrete}
use native.Mathlib.Omega.{arith}
use borrow.Author.Tests.{eqb-true, eqb-false, ltb-true, ltb-false, not-true, not-false}
use lib.Dec.{T, eqb, ltb, eqb→eq}
use lib.ListN.{length, get_or, set, length-set}
use lib.Seq.{get_or-set_same, get_or-set_other}
use Rattle.model.specs.Limits.{max_states}
use Rattle.model.specs.Lists.{tab}
use Rattle.model.specs.Automaton.{Automaton}
use Rattle.model.specs.Written.{rule_at, no_rule}
use Rattle.model.proofs.Members.{T_true}
use Rattle.model.proofs.Tab.{tab_at, length_tab}
use Rattle.model.proofs.Rows.{in_get_d}
use Rattle.model.proofs.Count.{pigeonhole}
use Rattle.automaton.specs.Stored.{decode}
use Rattle.automaton.specs.Check.{check_of}
use Rattle.automaton.proofs.Sound.{sound_decode}
use Rattle.emptiness.specs.Marking.{marked?, ready?, Ready, Tried, Tries, this?}

pub T-or : (a b : Bool) → T (a || b) → T a ⊎ T b
T-or true b t = inl tt
T-or false b t = inr t

-- a number that is lower than the old one, where there is an old one
lower_true : (x m : ℕ) → (eqb x 0 || ltb m x) ≡ true → (x ≡ 0) ⊎ (m < x)
lower_true x m e = ⊎_elim (λ h. inl (eqb→eq x 0 h)) (λ h. inr (ltb-true m x ((T_true (ltb m x)).0 h))) (T-or (eqb x 0) (ltb m x) ((T_true (eqb x 0 || ltb m x)).1 e))

lower_false : (x m : ℕ) → (eqb x 0 || ltb m x) ≡ false → (x ≡ 0 → ⊥) × (x ≤ m)
lower_false x m e = go (eqb x 0) (ltb m x) refl refl e
  where
    go : (a b : Bool) → eqb x 0 ≡ a → ltb m x ≡ b → (a || b) ≡ false → (x ≡ 0 → ⊥) × (x ≤ m)
    go true b ea eb f = let z : ⊥ = subst T f tt in absurd z
    go false true ea eb f = let z : ⊥ = subst T f tt in absurd z
    go false false ea eb f = (eqb-false x 0 ea, ltb-false m x eb)

-- as many different numbers below m as a list of m places has, and one more, there are not
too_many : (m q : ℕ) (l : List ℕ) → ((x : ℕ) → x < m → get_or l x 0 < m) → ((x y : ℕ) → x < m → y < m → get_or l x 0 ≡ get_or l y 0 → x ≡ y) → q < m → ((x : ℕ) → x < m → get_or l x 0 ≡ q → ⊥) → ⊥
too_many m q l low once lq new =
    let h = pigeonhole (λ i y. get_or (q ∷ l) i 0 ≡ y) (suc m) (tab m (λ z. z)) holds one in
    omega (arith, length_tab m (λ z. z))
  where
    there : (y : ℕ) → y < m → In y (tab m (λ z. z))
    there y ly = subst (λ z. In z (tab m (λ z. z))) (tab_at 0 m (λ z. z) y ly) (in_get_d 0 (tab m (λ z. z)) y (omega (arith, length_tab m (λ z. z))))

    holds : (i : ℕ) → i < suc m → (y : ℕ) × In y (tab m (λ z. z)) × (get_or (q ∷ l) i 0 ≡ y)
    holds zero li = (q, there q lq, refl)
    holds (suc i) li = (get_or l i 0, there (get_or l i 0) (low i (omega arith)), refl)

    one : (i j y : ℕ) → i < suc m → j < suc m → get_or (q ∷ l) i 0 ≡ y → get_or (q ∷ l) j 0 ≡ y → i ≡ j
    one zero zero y li lj ei ej = refl
    one zero (suc j) y li lj ei ej = absurd (new j (omega arith) (ej ∙ sym ei))
    one (suc i) zero y li lj ei ej = absurd (new i (omega arith) (ei ∙ sym ej))
    one (suc i) (suc j) y li lj ei ej = ap suc (once i j (omega arith) (omega arith) (ei ∙ sym ej))

module _ (A : Automaton) (marks : List ℕ) where
  -- what was tried may be told of fewer rules, and of those that lead nowhere
  pub tried_fewer : (done less : ℕ → Bool) (next added : List ℕ) (n : ℕ) → ((q j : ℕ) → Ready A marks q j → get_or marks q 0 ≡ 0 → T (less j) → T (done j)) → Tried A marks done next added n → Tried A marks less next added n
  tried_fewer done less next added n h t =
      record {
        long = t.long;
        room = t.room;
        keeps = t.keeps;
        by = t.by;
        first = λ q i r d e. t.first q i r (h q i r e d) e;
        listed = t.listed;
        new = t.new;
        once = t.once;
      }

  pub tried_none : (done : ℕ → Bool) (added : List ℕ) → ((j : ℕ) → T (done j) → ⊥) → length marks ≡ max_states → length added ≡ max_states → Tried A marks done marks added 0
  tried_none done added h l r =
      record {
        long = l;
        room = r;
        keeps = λ q k. refl;
        by = λ q i e f. let z : ⊥ = omega arith in absurd z;
        first = λ q i R d. absurd (h i d);
        listed = λ q e k. absurd (k e);
        new = λ x lx. let z : ⊥ = omega arith in absurd z;
        once = λ x y lx. let z : ⊥ = omega arith in absurd z;
      }

  module _ (i q : ℕ) (et : q ≡ (rule_at A i).target) (next added : List ℕ) (n : ℕ) where
    -- the rule changes nothing
    skips : (Ready A marks q i → get_or marks q 0 ≡ 0 → (get_or next q 0 ≡ 0 → ⊥) × (get_or next q 0 ≤ suc i)) → Tries A marks (this? i) next added n next added n
    unfolding this?
    skips h = record {
      gives = λ done t.
          record {
            long = t.long;
            room = t.room;
            keeps = t.keeps;
            by = t.by;
            first = λ p j R d e. ⊎_elim (λ g. t.first p j R g e) (λ g. own p j R e (eqb→eq j i g)) (T-or (done j) (eqb j i) d);
            listed = t.listed;
            new = t.new;
            once = t.once;
          };
    }
      where
        own : (p j : ℕ) → Ready A marks p j → get_or marks p 0 ≡ 0 → j ≡ i → (get_or next p 0 ≡ 0 → ⊥) × (get_or next p 0 ≤ suc j)
        own p j R e g =
            let f : q ≡ p = et ∙ ap (λ z. (rule_at A z).target) (sym g) ∙ R.target in
            let R' : Ready A marks q i = subst (λ z. Ready A marks z i) (sym f) (subst (Ready A marks p) g R) in
            let (a, b) = h R' (ap (λ z. get_or marks z 0) f ∙ e) in
            (λ z. a (ap (λ w. get_or next w 0) f ∙ z), let c = ap (λ w. get_or next w 0) f in omega arith)

    pub try_marked : (b : Bool) → b ≡ marked? marks q → b ≡ true → Tries A marks (this? i) next added n next added n
    unfolding marked?
    try_marked b eb t = skips (λ R e. absurd (eqb-false (get_or marks q 0) 0 (not-true (eqb (get_or marks q 0) 0) (sym eb ∙ t)) e))

    pub try_later : (x : ℕ) → x ≡ get_or next q 0 → (eqb x 0 || ltb (i + 1) x) ≡ false → Tries A marks (this? i) next added n next added n
    try_later x ex f = skips (λ R e. let (a, b) = lower_false x (i + 1) f in (λ z. a (ex ∙ z), omega arith))

    pub try_unready : (b : Bool) → b ≡ ready? marks (rule_at A i) → b ≡ false → Tries A marks (this? i) next added n next added n
    try_unready b eb f = skips (λ R e. let z : ⊥ = subst T (sym R.ready ∙ sym eb ∙ f) tt in absurd z)

    -- the rule marks its target
    module _ (own : Ready A marks q i) (small : q < max_states) (e : get_or marks q 0 ≡ 0) (lo : (get_or next q 0 ≡ 0) ⊎ (suc i < get_or next q 0)) (done : ℕ → Bool) (t : Tried A marks done next added n) where
      abbrev next' : List ℕ
      next' = set next q (suc i)

      same : get_or next' q 0 ≡ suc i
      same = get_or-set_same next q (suc i) 0 (omega (arith, t.long))

      other : (p : ℕ) → (p ≡ q → ⊥) → get_or next' p 0 ≡ get_or next p 0
      other p h = get_or-set_other next q p (suc i) 0 h

      keeps' : (p : ℕ) → (get_or marks p 0 ≡ 0 → ⊥) → get_or next' p 0 ≡ get_or marks p 0
      keeps' p h = other p (λ g. h (ap (λ z. get_or marks z 0) g ∙ e)) ∙ t.keeps p h

      by' : (p j : ℕ) → get_or marks p 0 ≡ 0 → get_or next' p 0 ≡ suc j → Ready A marks p j
      by' p j z f = go (ℕ_discrete p q)
        where
          go : Dec (p ≡ q) → Ready A marks p j
          go (yes g) =
              let a : suc i ≡ suc j = sym same ∙ ap (λ w. get_or next' w 0) (sym g) ∙ f in
              let h : i ≡ j = omega arith in
              subst (Ready A marks p) h (subst (λ w. Ready A marks w i) (sym g) own)
          go (no g) = t.by p j z (sym (other p g) ∙ f)

      first' : (p j : ℕ) → Ready A marks p j → T (done j || this? i j) → get_or marks p 0 ≡ 0 → (get_or next' p 0 ≡ 0 → ⊥) × (get_or next' p 0 ≤ suc j)
      unfolding this?
      first' p j R d z = go (ℕ_discrete p q) (T-or (done j) (eqb j i) d)
        where
          here : p ≡ q → i ≤ j → (get_or next' p 0 ≡ 0 → ⊥) × (get_or next' p 0 ≤ suc j)
          here g l = let a : get_or next' p 0 ≡ suc i = ap (λ w. get_or next' w 0) g ∙ same in (λ y. omega arith, omega arith)

          go : Dec (p ≡ q) → T (done j) ⊎ T (eqb j i) → (get_or next' p 0 ≡ 0 → ⊥) × (get_or next' p 0 ≤ suc j)
          go (no g) (inl a) = subst (λ w. (w ≡ 0 → ⊥) × (w ≤ suc j)) (sym (other p g)) (t.first p j R a z)
          go (no g) (inr a) = absurd (g (sym R.target ∙ ap (λ w. (rule_at A w).target) (eqb→eq j i a) ∙ sym et))
          go (yes g) (inr a) = here g (let b = eqb→eq j i a in omega arith)
          go (yes g) (inl a) =
              let (k, b) = t.first p j R a z in
              let c : get_or next p 0 ≡ get_or next q 0 = ap (λ w. get_or next w 0) g in
              here g (⊎_elim (λ w. absurd (k (c ∙ w))) (λ w. omega arith) lo)

      marked_now : (p : ℕ) → (get_or next p 0 ≡ 0 → ⊥) → get_or next' p 0 ≡ 0 → ⊥
      marked_now p h = go (ℕ_discrete p q)
        where
          go : Dec (p ≡ q) → get_or next' p 0 ≡ 0 → ⊥
          go (yes g) z = let a : suc i ≡ 0 = sym same ∙ ap (λ w. get_or next' w 0) (sym g) ∙ z in omega arith
          go (no g) z = h (sym (other p g) ∙ z)

      lowered : (get_or next q 0 ≡ 0 → ⊥) → Tried A marks (λ j. done j || this? i j) next' added n
      lowered h =
          record {
            long = length-set next q (suc i) ∙ t.long;
            room = t.room;
            keeps = keeps';
            by = by';
            first = first';
            listed = λ p z k. t.listed p z (go p k (ℕ_discrete p q));
            new = λ x lx. ((t.new x lx).0, marked_now (get_or added x 0) (t.new x lx).1);
            once = t.once;
          }
        where
          go : (p : ℕ) → (get_or next' p 0 ≡ 0 → ⊥) → Dec (p ≡ q) → get_or next p 0 ≡ 0 → ⊥
          go p k (yes g) z = h (ap (λ w. get_or next w 0) (sym g) ∙ z)
          go p k (no g) z = k (other p g ∙ z)

      module _ (z : get_or next q 0 ≡ 0) (l : n < max_states) where
        abbrev added' : List ℕ
        added' = set added n q

        last : get_or added' n 0 ≡ q
        last = get_or-set_same added n q 0 (omega (arith, t.room))

        old : (x : ℕ) → x < n → get_or added' x 0 ≡ get_or added x 0
        old x lx = get_or-set_other added n x q 0 (λ g. let y : ⊥ = omega arith in y)

        unlisted : (x : ℕ) → x < n → get_or added x 0 ≡ q → ⊥
        unlisted x lx g = (t.new x lx).1 (ap (λ w. get_or next w 0) g ∙ z)

        listed' : (p : ℕ) → get_or marks p 0 ≡ 0 → (get_or next' p 0 ≡ 0 → ⊥) → (x : ℕ) × (x < suc n) × (get_or added' x 0 ≡ p)
        listed' p ep k = go (ℕ_discrete p q)
          where
            go : Dec (p ≡ q) → (x : ℕ) × (x < suc n) × (get_or added' x 0 ≡ p)
            go (yes g) = (n, omega arith, last ∙ sym g)
            go (no g) = let (x, lx, ex) = t.listed p ep (λ y. k (other p g ∙ y)) in (x, omega arith, old x lx ∙ ex)

        new' : (x : ℕ) → x < suc n → (get_or marks (get_or added' x 0) 0 ≡ 0) × (get_or next' (get_or added' x 0) 0 ≡ 0 → ⊥)
        new' x lx = go (ℕ_discrete x n)
          where
            go : Dec (x ≡ n) → (get_or marks (get_or added' x 0) 0 ≡ 0) × (get_or next' (get_or added' x 0) 0 ≡ 0 → ⊥)
            go (yes g) =
                let a : get_or added' x 0 ≡ q = ap (λ w. get_or added' w 0) g ∙ last in
                (ap (λ w. get_or marks w 0) a ∙ e, λ y. let b : suc i ≡ 0 = sym same ∙ ap (λ w. get_or next' w 0) (sym a) ∙ y in omega arith)
            go (no g) =
                let lx' : x < n = omega arith in
                let a = old x lx' in
                let (b, c) = t.new x lx' in
                (ap (λ w. get_or marks w 0) a ∙ b, λ y. marked_now (get_or added x 0) c (ap (λ w. get_or next' w 0) (sym a) ∙ y))

        once' : (x y : ℕ) → x < suc n → y < suc n → get_or added' x 0 ≡ get_or added' y 0 → x ≡ y
        once' x y lx ly f = go (ℕ_discrete x n) (ℕ_discrete y n)
          where
            go : Dec (x ≡ n) → Dec (y ≡ n) → x ≡ y
            go (yes a) (yes b) = a ∙ sym b
            go (yes a) (no b) = let ly' : y < n = omega arith in absurd (unlisted y ly' (sym (old y ly') ∙ sym f ∙ ap (λ w. get_or added' w 0) a ∙ last))
            go (no a) (yes b) = let lx' : x < n = omega arith in absurd (unlisted x lx' (sym (old x lx') ∙ f ∙ ap (λ w. get_or added' w 0) b ∙ last))
            go (no a) (no b) = let lx' : x < n = omega arith in let ly' : y < n = omega arith in t.once x y lx' ly' (sym (old x lx') ∙ f ∙ old y ly')

        joined : Tried A marks (λ j. done j || this? i j) next' added' (suc n)
        joined =
            record {
              long = length-set next q (suc i) ∙ t.long;
              room = length-set added n q ∙ t.room;
              keeps = keeps';
              by = by';
              first = first';
              listed = listed';
              new = new';
              once = once';
            }

-- the same over the bytes, for the function that tries a rule
module _ (s : List ℕ) (sound : check_of s ≡ 0) (marks : List ℕ) (i q : ℕ) (l : i < length (decode s).rules) (et : q ≡ (rule_at (decode s) i).target) (next added : List ℕ) (n x : ℕ) (ex : x ≡ get_or next q 0) (lo : (eqb x 0 || ltb (i + 1) x) ≡ true) (b : Bool) (eb : b ≡ marked? marks q) (fb : b ≡ false) (r : Bool) (er : r ≡ ready? marks (rule_at (decode s) i)) (tr : r ≡ true) (at : ℕ) (ea : at ≡ q) where
  own : Ready (decode s) marks q i
  own = record { known = l; target = sym et; ready = sym er ∙ tr }

  state_in : (p j : ℕ) → Ready (decode s) marks p j → p < max_states
  state_in p j R =
      let h = (sound_decode s sound).wellformed.targets (rule_at (decode s) j) (in_get_d no_rule (decode s).rules j R.known) in
      omega (arith, R.target, (sound_decode s sound).few_states)

  unmarked_yet : get_or marks q 0 ≡ 0
  unfolding marked?
  unmarked_yet = eqb-true (get_or marks q 0) 0 (not-false (eqb (get_or marks q 0) 0) (sym eb ∙ fb))

  better : (get_or next q 0 ≡ 0) ⊎ (suc i < get_or next q 0)
  better = ⊎_elim (λ h. inl (sym ex ∙ h)) (λ h. inr (omega arith)) (lower_true x (i + 1) lo)

  written : set next q (suc i) ≡ set next at (i + 1)
  written = ap (λ z. set next z (suc i)) (sym ea) ∙ ap (set next at) (sym (add-one i))

  pub try_lower : (x ≡ 0 → ⊥) → Tries (decode s) marks (this? i) next added n (set next at (i + 1)) added n
  try_lower h = record { gives = λ done t. subst (λ z. Tried (decode s) marks (λ j. done j || this? i j) z added n) written (lowered (decode s) marks i q et next added n own (state_in q i own) unmarked_yet better done t (λ z. h (ex ∙ z))) }

  pub try_new : (end : ℕ) → x ≡ 0 → end ≡ n → end < 256 → Tries (decode s) marks (this? i) next added n (set next at (i + 1)) (set added end q) (n + 1)
  try_new end h ee le = record {
    gives = λ done t.
        subst (λ z. Tried (decode s) marks (λ j. done j || this? i j) (set next at (i + 1)) (set added end q) z) (sym (add-one n))
        (subst (λ z. Tried (decode s) marks (λ j. done j || this? i j) (set next at (i + 1)) (set added z q) (suc n)) (sym ee)
        (subst (λ z. Tried (decode s) marks (λ j. done j || this? i j) z (set added n q) (suc n)) written (joined (decode s) marks i q et next added n own (state_in q i own) unmarked_yet better done t (sym ex ∙ h) (omega arith))));
  }

  -- there is always a place for the state
  pub try_full : (end : ℕ) → x ≡ 0 → end ≡ n → 256 ≤ end → Tries (decode s) marks (this? i) next added n (set next at (i + 1)) added n
  try_full end h ee le = record {
    gives = λ done t.
        absurd
        (too_many max_states q added
        (λ y ly. low done t y (omega arith))
        (λ y z ly lz. t.once y z (omega arith) (omega arith))
        (state_in q i own)
        (λ y ly g. (t.new y (omega arith)).1 (ap (λ w. get_or next w 0) g ∙ sym ex ∙ h)));
  }
    where
      low : (done : ℕ → Bool) → Tried (decode s) marks done next added n → (y : ℕ) → y < n → get_or added y 0 < max_states
      low done t y ly = go (get_or next (get_or added y 0) 0) refl (t.new y ly).1
        where
          go : (k : ℕ) → get_or next (get_or added y 0) 0 ≡ k → (get_or next (get_or added y 0) 0 ≡ 0 → ⊥) → get_or added y 0 < max_states
          go zero e w = absurd (w e)
          go (suc k) e w = state_in (get_or added y 0) k (t.by (get_or added y 0) k (t.new y ly).0 e)
