-- The union lets in what one of the two lets in. Assumes nothing.
use mathlib.Core.Path.{◌≡◌, refl, sym, ap, ◌∙◌, subst}
use mathlib.Core.Logic.{◌⊎◌, inl, inr, ⊎_elim, ◌↔◌}
use mathlib.Core.Option.{some}
use mathlib.Core.List.Memᴰ
use mathlib.Core.List.Memᴰ.{append_cases as in_append}
use mathlib.Core.List.{List, [], ◌∷◌, map, Memᴰ as In}
use mathlib.Core.Bool.{false}
use Prim.Native.Nat.{ℕ, zero, suc, ◌+◌, ◌-◌, ◌*◌, ◌/◌, ◌%◌, ◌^◌, ◌<◌, ◌≤◌}
use native.Mathlib.Omega.{arith}
use native.Mathlib.Nat.{div-eq_of_lt, lt_of_lt_of_le, zero-add, zero-div, zero-mul}
use native.Mathlib.Decide.{dec_lt}
use lib.Dec.{T, eqb}
use lib.Pow.{pow_mono, pow_pos}
use lib.Seq.{get_or-append-add}
use lib.ListN.{length, get_or, length-map, get_or-append}
use Rattle.model.specs.Tree.{Tree, children_of, at}
use Rattle.model.specs.Automaton.{Rule, State, Automaton, Wellformed, no_state, state_at, final?, carries?, forgets?}
use Rattle.model.specs.Run.{Move, IsRun, Forgets, Accepts}
use Rattle.model.specs.Boolean.{shift_state, shift_rule, union}
use Rattle.model.proofs.Members.{in_map, map_in, map_at}
use Rattle.model.proofs.Rows.{in_get_d}
use Rattle.model.proofs.Runs.{at_kid, child_run, leaf}
use Rattle.model.proofs.Order.{in_sorted, sorted_in}
use Rattle.model.proofs.Combine.{Carried, carry, bit_low, bit_high}

-- a mask has no bit at or past its width
bit_past : (m t k : ℕ) → m < 2 ^ t → t ≤ k → T (eqb (m / 2 ^ k % 2) 1) → ⊥
bit_past m t k h l c =
    let z : m / 2 ^ k ≡ 0 = div-eq_of_lt (lt_of_lt_of_le h (pow_mono l)) in
    subst (λ x. T (eqb (x % 2) 1)) z c

-- the states of the union: the first's, then the second's, shifted
shifted_at : (t : ℕ) (xs : List State) (q : ℕ) → get_or (map (shift_state t) xs) q no_state ≡ shift_state t (get_or xs q no_state)
shifted_at t [] q = λ i. record { final = false; mask = sym (zero-mul (2 ^ t)) i }
shifted_at t (x ∷ xs) zero = refl
shifted_at t (x ∷ xs) (suc q) = shifted_at t xs q

module _ (A B : Automaton) where
  pub union_first : (q : ℕ) → q < length A.states → state_at (union A B) q ≡ state_at A q
  union_first q l = get_or-append A.states (map (shift_state A.tags) B.states) no_state q l

  pub union_second : (q : ℕ) → state_at (union A B) (length A.states + q) ≡ shift_state A.tags (state_at B q)
  union_second q = get_or-append-add A.states (map (shift_state A.tags) B.states) q no_state ∙ shifted_at A.tags B.states q

module _ (A B : Automaton) (sa : Wellformed A) (sb : Wellformed B) where
  abbrev U : Automaton
  U = union A B

  abbrev n : ℕ
  n = length A.states

  final_left : (q : ℕ) → q < n → final? U q ≡ final? A q
  final_left q l = ap (λ (s : State). s.final) (union_first A B q l)

  final_right : (q : ℕ) → q < length B.states → final? U (n + q) ≡ final? B q
  final_right q l = ap (λ (s : State). s.final) (union_second A B q)

  tag_left : (q : ℕ) → q < n → (k : ℕ) → carries? U q k ≡ carries? A q k
  tag_left q l k = ap (λ (s : State). eqb (s.mask / 2 ^ k % 2) 1) (union_first A B q l)

  tag_right : (q : ℕ) → q < length B.states → (k : ℕ) → carries? U (n + q) (A.tags + k) ≡ carries? B q k
  tag_right q l k =
      ap (λ (s : State). eqb (s.mask / 2 ^ (A.tags + k) % 2) 1) (union_second A B q)
      ∙ ap (λ z. eqb (z / 2 ^ (A.tags + k) % 2) 1) (sym (zero-add _))
      ∙ ap (λ z. eqb z 1) (bit_high 0 (get_or B.states q no_state).mask k A.tags (pow_pos A.tags))

  -- a shifted rule forgets the shifted tags
  shift_forgets : (r : Rule) (k : ℕ) → forgets? (shift_rule n A.tags r) (A.tags + k) ≡ forgets? r k
  shift_forgets r k = ap (λ z. eqb (z / 2 ^ (A.tags + k) % 2) 1) (sym (zero-add (r.forget * 2 ^ A.tags))) ∙ ap (λ z. eqb z 1) (bit_high 0 r.forget k A.tags (pow_pos A.tags))

  -- no tag of the first set is in the second's states
  tag_apart : (q : ℕ) → q < length B.states → (k : ℕ) → k < A.tags → T (carries? U (n + q) k) → ⊥
  tag_apart q l k h c =
      let m = (get_or B.states q no_state).mask in
      let e : carries? U (n + q) k ≡ eqb (0 / 2 ^ k % 2) 1
      = ap (λ (s : State). eqb (s.mask / 2 ^ k % 2) 1) (union_second A B q) ∙ ap (λ z. eqb (z / 2 ^ k % 2) 1) (sym (zero-add _)) ∙ ap (λ z. eqb z 1) (bit_low 0 m k A.tags h) in
      subst (λ x. T (eqb (x % 2) 1)) (zero-div (2 ^ k)) (subst T e c)

  from_left : Carried A U
  from_left =
      record {
        f = λ q. q;
        g = λ k. k;
        brings = λ k. Unit {0};
        rule = λ r ir. (r, sorted_in _ (Memᴰ.append_left _ ir), refl, refl, refl, λ j l. refl, λ k b o. o);
        final = λ r ir h. subst T (sym (final_left r.target (sa.targets r ir))) h;
        tags = λ r ir k h c. tagged r.target (sa.targets r ir) k (subst T (tag_left r.target (sa.targets r ir) k) c) (dec_lt k A.tags);
      }
    where
      tagged : (q : ℕ) → q < n → (k : ℕ) → T (carries? A q k) → Dec (k < A.tags) → (k < A.tags) × T (carries? A q k) × Unit {0}
      tagged q l k c (yes h) = (h, c, tt)
      tagged q l k c (no h) = absurd (bit_past (get_or A.states q no_state).mask A.tags k (sa.masks q) (omega arith) c)

  from_right : Carried B U
  from_right =
      record {
        f = λ q. n + q;
        g = λ k. k - A.tags;
        brings = λ k. A.tags ≤ k;
        rule = λ r ir. (shift_rule n A.tags r, sorted_in _ (Memᴰ.append_right A.rules (map_in (shift_rule n A.tags) ir)), refl, refl, length-map r.children (n +◌), λ j l. map_at (n +◌) 0 0 r.children j l, λ k b o. shift_back r k b o);
        final = λ r ir h. subst T (sym (final_right r.target (sb.targets r ir))) h;
        tags = λ r ir k h c. tagged r.target (sb.targets r ir) k h c (dec_lt k A.tags);
      }
    where
      tagged : (q : ℕ) → q < length B.states → (k : ℕ) → k < U.tags → T (carries? U (n + q) k) → Dec (k < A.tags) → (k - A.tags < B.tags) × T (carries? B q (k - A.tags)) × (A.tags ≤ k)
      tagged q l k h c (yes b) = absurd (tag_apart q l k b c)
      tagged q l k h c (no b) =
          let e : k ≡ A.tags + (k - A.tags) = omega arith in
          (omega arith, subst T (tag_right q l (k - A.tags)) (subst (λ z. T (carries? U (n + q) z)) e c), omega arith)

      shift_back : (r : Rule) (k : ℕ) → A.tags ≤ k → T (forgets? r (k - A.tags)) → T (forgets? (shift_rule n A.tags r) k)
      shift_back r k b o =
          let e : k ≡ A.tags + (k - A.tags) = omega arith in
          subst (λ z. T (forgets? (shift_rule n A.tags r) z)) (sym e) (subst T (sym (shift_forgets r (k - A.tags))) o)

  -- a rule of the union is one of the two sets'
  pub rule_of_lem : (r : Rule) → In r U.rules → In r A.rules ⊎ ((b : Rule) × In b B.rules × (r ≡ shift_rule n A.tags b))
  rule_of_lem r h = ⊎_elim inl (λ m. inr (in_map (shift_rule n A.tags) B.rules m)) (in_append A.rules (in_sorted _ h))

  -- a run that starts in a state of the first set stays there
  stays : (p : List ℕ) (t : Tree) (ρ : List ℕ → ℕ) → IsRun U t ρ → ρ [] < n → (u : Tree) → at t p ≡ some u → ρ p < n
  stays [] t ρ runs h u e = h
  stays (j ∷ p) t ρ runs h u e =
      let (l, e') = at_kid t (children_of t) refl j p u e in
      let s = runs [] t refl in
      stays p (get_or (children_of t) j leaf) (λ z. ρ (j ∷ z)) (child_run t ρ runs j l) (subst (◌< n) (s.from j l) (⊎_elim (λ ia. sa.children s.rule ia _ (in_get_d 0 s.rule.children j (omega (arith, s.as_many)))) (λ (b, ib, eb). let z : ⊥ = omega (arith, s.leads, ap (λ (x : Rule). x.target) eb) in absurd z) (rule_of_lem s.rule s.listed))) u e'

  stays_right : (p : List ℕ) (t : Tree) (ρ : List ℕ → ℕ) → IsRun U t ρ → n ≤ ρ [] → (u : Tree) → at t p ≡ some u → n ≤ ρ p
  stays_right [] t ρ runs h u e = h
  stays_right (j ∷ p) t ρ runs h u e =
      let (l, e') = at_kid t (children_of t) refl j p u e in
      let s = runs [] t refl in
      stays_right p (get_or (children_of t) j leaf) (λ z. ρ (j ∷ z)) (child_run t ρ runs j l) (subst (n ≤◌) (s.from j l) (⊎_elim (λ ia. let z : ⊥ = omega (arith, s.leads, sa.targets s.rule ia) in absurd z) (λ (b, ib, eb). kid s.rule b eb j (omega (arith, s.as_many))) (rule_of_lem s.rule s.listed))) u e'
    where
      kid : (r b : Rule) → r ≡ shift_rule n A.tags b → (j : ℕ) → j < length r.children → n ≤ get_or r.children j 0
      kid r b e j l =
          let l' : j < length b.children = omega (arith, ap (λ (x : Rule). length x.children) e, length-map b.children (n +◌)) in
          omega (arith, ap (λ (x : Rule). get_or x.children j 0) e, map_at (n +◌) 0 0 b.children j l')

  to_left : (t : Tree) (w : Accepts U t) → w.run [] < n → Accepts A t
  to_left t w h =
      record {
        run = w.run;
        runs = λ p u e. (step p u e (w.runs p u e)).0;
        accepting = subst T (final_left (w.run []) h) w.accepting;
        consistent = λ k lk p p' u u' e e' c c' g.
            w.consistent k (omega arith) p p' u u' e e' (subst T (sym (tag_left (w.run p) (inside p u e) k)) c) (subst T (sym (tag_left (w.run p') (inside p' u' e') k)) c') (λ v o. g v (forgotten k v o));
      }
    where
      inside : (p : List ℕ) (u : Tree) → at t p ≡ some u → w.run p < n
      inside p u e = stays p t w.run w.runs h u e

      step : (p : List ℕ) (u : Tree) → at t p ≡ some u → (s : Move U w.run p u) → (m : Move A w.run p u) × (m.rule ≡ s.rule)
      step p u e s =
          ⊎_elim
          (λ ia. (record { rule = s.rule; listed = ia; same_symbol = s.same_symbol; leads = s.leads; as_many = s.as_many; from = s.from }, refl))
          (λ (b, ib, eb). let z : ⊥ = omega (arith, s.leads, inside p u e, ap (λ (x : Rule). x.target) eb) in absurd z)
          (rule_of_lem s.rule s.listed)

      forgotten : (k : ℕ) (v : List ℕ) → Forgets U t w.run k v → Forgets A t w.run k v
      forgotten k v o =
          let (m, is) = step v o.tree o.stands o.move in
          record { tree = o.tree; stands = o.stands; move = m; forgotten = subst (λ (r : Rule). T (forgets? r k)) (sym is) o.forgotten }

  -- a move of the union by a shifted rule is one of the second set
  record Part (ρ : List ℕ → ℕ) (p : List ℕ) (u : Tree) (s : Move U ρ p u) : Type 0 where
    move : Move B (λ z. ρ z - n) p u
    known : ρ p - n < length B.states
    is : s.rule ≡ shift_rule n A.tags move.rule

  shifted : (ρ : List ℕ → ℕ) (p : List ℕ) (u : Tree) (s : Move U ρ p u) (b : Rule) → In b B.rules → s.rule ≡ shift_rule n A.tags b → Part ρ p u s
  shifted ρ p u s b ib eb =
      let et = ap (λ (x : Rule). x.target) eb in
      let el : length s.rule.children ≡ length b.children = ap (λ (x : Rule). length x.children) eb ∙ length-map b.children (n +◌) in
      record {
        move =
            record {
              rule = b;
              listed = ib;
              same_symbol = sym (ap (λ (x : Rule). x.symbol) eb) ∙ s.same_symbol;
              leads = omega (arith, s.leads);
              as_many = sym el ∙ s.as_many;
              from = λ j l. omega (arith, s.from j l, ap (λ (x : Rule). get_or x.children j 0) eb, map_at (n +◌) 0 0 b.children j (omega (arith, s.as_many)));
            };
        known = omega (arith, s.leads, sb.targets b ib);
        is = eb;
      }

  to_right : (t : Tree) (w : Accepts U t) → n ≤ w.run [] → Accepts B t
  to_right t w h =
      record {
        run = λ p. w.run p - n;
        runs = λ p u e. (part p u e (w.runs p u e)).move;
        accepting = subst T (ap (final? U) (back [] t refl) ∙ final_right (w.run [] - n) (part [] t refl (w.runs [] t refl)).known) w.accepting;
        consistent = λ k lk p p' u u' e e' c c' g. w.consistent (A.tags + k) (omega arith) p p' u u' e e' (tagged p u e k c) (tagged p' u' e' k c') (λ v o. g v (forgotten k v o));
      }
    where
      inside : (p : List ℕ) (u : Tree) → at t p ≡ some u → n ≤ w.run p
      inside p u e = stays_right p t w.run w.runs h u e

      back : (p : List ℕ) (u : Tree) → at t p ≡ some u → w.run p ≡ n + (w.run p - n)
      back p u e = omega (arith, inside p u e)

      part : (p : List ℕ) (u : Tree) → at t p ≡ some u → (s : Move U w.run p u) → Part w.run p u s
      part p u e s =
          ⊎_elim
          (λ ia. let z : ⊥ = omega (arith, s.leads, inside p u e, sa.targets s.rule ia) in absurd z)
          (λ (b, ib, eb). shifted w.run p u s b ib eb)
          (rule_of_lem s.rule s.listed)

      forgotten : (k : ℕ) (v : List ℕ) → Forgets U t w.run (A.tags + k) v → Forgets B t (λ z. w.run z - n) k v
      forgotten k v o =
          let m = part v o.tree o.stands o.move in
          record { tree = o.tree; stands = o.stands; move = m.move; forgotten = subst T (shift_forgets m.move.rule k) (subst (λ (r : Rule). T (forgets? r (A.tags + k))) m.is o.forgotten) }

      tagged : (p : List ℕ) (u : Tree) → at t p ≡ some u → (k : ℕ) → T (carries? B (w.run p - n) k) → T (carries? U (w.run p) (A.tags + k))
      tagged p u e k c = subst T (sym (ap (λ z. carries? U z (A.tags + k)) (back p u e) ∙ tag_right (w.run p - n) (part p u e (w.runs p u e)).known k)) c

  pub either : (t : Tree) → Accepts U t ↔ (Accepts A t ⊎ Accepts B t)
  either t = (λ w. by_side w (dec_lt (w.run []) n), ⊎_elim (carry from_left t) (carry from_right t))
    where
      by_side : (w : Accepts U t) → Dec (w.run [] < n) → Accepts A t ⊎ Accepts B t
      by_side w (yes h) = inl (to_left t w h)
      by_side w (no h) = inr (to_right t w (omega arith))
