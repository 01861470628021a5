-- A set is carried to another by a map of its states; the product lets in what both let in. Assumes nothing.
use mathlib.Core.Path.{◌≡◌, refl, sym, ap, ◌∙◌, subst}
use mathlib.Core.Logic.{◌↔◌}
use mathlib.Core.Option.{some}
use mathlib.Core.List.Memᴰ.{eq_of_singleton}
use mathlib.Core.List.Memᴰ.{head as here}
use mathlib.Core.List.{List, [], ◌∷◌, Memᴰ as In}
use mathlib.Core.Bool.{◌&&◌}
use Prim.Native.Nat.{ℕ, zero, suc, ◌+◌, ◌-◌, ◌*◌, ◌/◌, ◌%◌, ◌^◌, ◌<◌}
use native.Mathlib.Omega.{arith}
use native.Mathlib.Nat.{add-mul-div_right, add-mul-mod_self_right, div-eq_of_lt, mul_assoc, pow-suc}
use native.Mathlib.Decide.{dec_lt}
use lib.Dec.{T, eqb, eqb→eq, eqb_refl}
use lib.Arith.{digits_lt, digits_div, digits_mod}
use lib.Pow.{pow_pos, pow-add, shr-shr}
use lib.ListN.{length, get_or}
use Rattle.model.specs.Tree.{Tree, at}
use Rattle.model.specs.Automaton.{Rule, State, Automaton, Wellformed, no_state, state_at, final?, carries?, forgets?}
use Rattle.model.specs.Run.{Move, Forgets, Together, Consistent, Accepts}
use Rattle.model.specs.Lists.{concat_map, only}
use Rattle.model.specs.Boolean.{pair_state, pair_numbers, pair_rule, product}
use Rattle.model.proofs.Members.{T_and, and_T, in_concat_map, concat_map_in, in_only, only_in}
use Rattle.model.proofs.Tab.{tab_at}
use Rattle.model.proofs.Order.{in_sorted, sorted_in}
use Rattle.model.proofs.Rows.{in_get_d}

-- a map of the states of `A` to those of `B` that keeps the rules and the final states, brings no tag that `A` has not, and forgets the tags that it brings where `A` does
pub record Carried (A B : Automaton) : Type 1 where
  pub f : ℕ → ℕ
  pub g : ℕ → ℕ
  pub brings : ℕ → Type 0
  pub rule : (r : Rule) → In r A.rules → (s : Rule) × In s B.rules × (s.symbol ≡ r.symbol) × (s.target ≡ f r.target) × (length s.children ≡ length r.children) × ((j : ℕ) → j < length r.children → get_or s.children j 0 ≡ f (get_or r.children j 0)) × ((k : ℕ) → brings k → T (forgets? r (g k)) → T (forgets? s k))
  pub final : (r : Rule) → In r A.rules → T (final? A r.target) → T (final? B (f r.target))
  pub tags : (r : Rule) → In r A.rules → (k : ℕ) → k < B.tags → T (carries? B (f r.target) k) → (g k < A.tags) × T (carries? A r.target (g k)) × brings k

pub carry : {A B : Automaton} → Carried A B → (t : Tree) → Accepts A t → Accepts B t
carry {A} {B} c t w =
    record {
      run = λ p. c.f (w.run p);
      runs = λ p u e. (moved p u (w.runs p u e)).0;
      accepting = let s = w.runs [] t refl in subst (λ q. T (final? B (c.f q))) s.leads (c.final s.rule s.listed (subst (λ q. T (final? A q)) (sym s.leads) w.accepting));
      consistent = λ k h p p' u u' e e' n n' g.
          let (h₁, m, b) = tagged p u e k h n in
          let (h₂, m', b') = tagged p' u' e' k h n' in
          w.consistent (c.g k) h₁ p p' u u' e e' m m' (λ v o. g v (forgotten k b v o));
    }
  where
    moved : (p : List ℕ) (u : Tree) (s : Move A w.run p u) → (m : Move B (λ z. c.f (w.run z)) p u) × ((k : ℕ) → c.brings k → T (forgets? s.rule (c.g k)) → T (forgets? m.rule k))
    moved p u s =
        let (r, ir, es, et, el, ek, eo) = c.rule s.rule s.listed in (
          record {
            rule = r;
            listed = ir;
            same_symbol = es ∙ s.same_symbol;
            leads = et ∙ ap c.f s.leads;
            as_many = el ∙ s.as_many;
            from = λ j h. ek j (omega (arith, s.as_many)) ∙ ap c.f (s.from j h);
          },
          eo,
        )

    forgotten : (k : ℕ) → c.brings k → (v : List ℕ) → Forgets A t w.run (c.g k) v → Forgets B t (λ z. c.f (w.run z)) k v
    forgotten k b v o = let (m, keep) = moved v o.tree o.move in record { tree = o.tree; stands = o.stands; move = m; forgotten = keep k b o.forgotten }

    tagged : (p : List ℕ) (u : Tree) → at t p ≡ some u → (k : ℕ) → k < B.tags → T (carries? B (c.f (w.run p)) k) → (c.g k < A.tags) × T (carries? A (w.run p) (c.g k)) × c.brings k
    tagged p u e k h n =
        let s = w.runs p u e in
        let (h₁, m, b) = c.tags s.rule s.listed k h (subst (λ q. T (carries? B (c.f q) k)) (sym s.leads) n) in
        (h₁, subst (λ q. T (carries? A q (c.g k))) s.leads m, b)

-- the bits of two masks side by side
shifted : (b k e : ℕ) → b * 2 ^ (suc e + k) ≡ b * 2 ^ e * 2 * 2 ^ k
shifted b k e = rw (pow-add 2 (suc e) k, pow-suc 2 e) (simp mul_assoc)

pub bit_low : (a b k t : ℕ) → k < t → (a + b * 2 ^ t) / 2 ^ k % 2 ≡ a / 2 ^ k % 2
bit_low a b k t h =
    let e : ℕ = t - suc k in
    let et : t ≡ suc e + k = omega arith in
    ap (λ z. (a + b * 2 ^ z) / 2 ^ k % 2) et
    ∙ ap (λ z. (a + z) / 2 ^ k % 2) (shifted b k e)
    ∙ ap (λ z. z % 2) (add-mul-div_right a (b * 2 ^ e * 2) (pow_pos k))
    ∙ add-mul-mod_self_right (a / 2 ^ k) (b * 2 ^ e) 2

pub bit_high : (a b k t : ℕ) → a < 2 ^ t → (a + b * 2 ^ t) / 2 ^ (t + k) % 2 ≡ b / 2 ^ k % 2
bit_high a b k t h =
    let low : a / 2 ^ t ≡ 0 = div-eq_of_lt h in
    ap (λ z. z % 2) (sym (shr-shr (a + b * 2 ^ t) t k) ∙ ap (λ z. z / 2 ^ k) (add-mul-div_right a b (pow_pos t) ∙ omega arith))

-- .. need as many bits as both
pub mask_bound : (a b t u : ℕ) → a < 2 ^ t → b < 2 ^ u → a + b * 2 ^ t < 2 ^ (t + u)
mask_bound a b t u la lb = rw (pow-add 2 t u) (omega (arith, digits_lt lb la))

pub length_pair_numbers : (n : ℕ) (ps qs : List ℕ) → length ps ≡ length qs → length (pair_numbers n ps qs) ≡ length ps
length_pair_numbers n [] qs h = refl
length_pair_numbers n (p ∷ ps) [] h = let z : ⊥ = omega arith in absurd z
length_pair_numbers n (p ∷ ps) (q ∷ qs) h = ap suc (length_pair_numbers n ps qs (omega arith))

pub pair_numbers_at : (n : ℕ) (ps qs : List ℕ) → length ps ≡ length qs → (j : ℕ) → j < length ps → get_or (pair_numbers n ps qs) j 0 ≡ get_or ps j 0 * n + get_or qs j 0
pair_numbers_at n [] qs h j l = let z : ⊥ = omega arith in absurd z
pair_numbers_at n (p ∷ ps) [] h j l = let z : ⊥ = omega arith in absurd z
pair_numbers_at n (p ∷ ps) (q ∷ qs) h zero l = refl
pair_numbers_at n (p ∷ ps) (q ∷ qs) h (suc j) l = pair_numbers_at n ps qs (omega arith) j (omega arith)

-- the rule that pairs two rules, and the rules that pair one with a list of rules
pub one_pair : (n t : ℕ) (a b : Rule) {r : Rule} → In r (only (eqb a.symbol b.symbol) (pair_rule n t a b ∷ [])) → (a.symbol ≡ b.symbol) × (r ≡ pair_rule n t a b)
one_pair n t a b h = let (d, o) = in_only (eqb a.symbol b.symbol) _ h in (eqb→eq a.symbol b.symbol d, eq_of_singleton o)

pub pair_in : (n t : ℕ) (a : Rule) (bs : List Rule) {r : Rule} → In r (concat_map (λ b. only (eqb a.symbol b.symbol) (pair_rule n t a b ∷ [])) bs) → (b : Rule) × In b bs × (a.symbol ≡ b.symbol) × (r ≡ pair_rule n t a b)
pair_in n t a bs h = let (b, ib, m) = in_concat_map _ bs h in let (e, is) = one_pair n t a b m in (b, ib, e, is)

-- what the product's state `(p, q)` is
module _ (A B : Automaton) where
  pub product_state_at : (i : ℕ) → i < length A.states * length B.states → state_at (product A B) i ≡ pair_state A.tags (state_at A (i / length B.states)) (state_at B (i % length B.states))
  product_state_at i l = tab_at no_state (length A.states * length B.states) _ i l

  pub product_state : (p q : ℕ) → p < length A.states → q < length B.states → state_at (product A B) (p * length B.states + q) ≡ pair_state A.tags (state_at A p) (state_at B q)
  product_state p q lp lq =
      product_state_at (p * length B.states + q) (digits_lt lp lq)
      ∙ ap (λ z. pair_state A.tags (state_at A z) (state_at B ((p * length B.states + q) % length B.states))) (digits_div p lq)
      ∙ ap (λ z. pair_state A.tags (state_at A p) (state_at B z)) (digits_mod p lq)

module _ (A B : Automaton) (sa : Wellformed A) (sb : Wellformed B) (same : A.arities ≡ B.arities) where
  abbrev P : Automaton
  P = product A B

  abbrev n : ℕ
  n = length B.states

  -- a rule of the product is a pair of rules, and each such pair is one
  record Pair (r : Rule) : Type 0 where
    left : Rule
    right : Rule
    in_left : In left A.rules
    in_right : In right B.rules
    symbols : left.symbol ≡ right.symbol
    is : r ≡ pair_rule n A.tags left right

  pair_of : (r : Rule) → In r P.rules → Pair r
  pair_of r h =
      let (a, ia, h₁) = in_concat_map _ A.rules (in_sorted _ h) in
      let (b, ib, e, is) = pair_in n A.tags a B.rules h₁ in
      record { left = a; right = b; in_left = ia; in_right = ib; symbols = e; is = is }

  of_pair : (a b : Rule) → In a A.rules → In b B.rules → a.symbol ≡ b.symbol → In (pair_rule n A.tags a b) P.rules
  of_pair a b ia ib e =
      sorted_in _ (concat_map_in (λ r. concat_map (λ s. only (eqb r.symbol s.symbol) (pair_rule n A.tags r s ∷ [])) B.rules) ia
      (concat_map_in (λ s. only (eqb a.symbol s.symbol) (pair_rule n A.tags a s ∷ [])) ib
      (only_in (eqb a.symbol b.symbol) (subst (λ z. T (eqb a.symbol z)) e (eqb_refl a.symbol)) (here refl))))

  -- .. and what it carries
  module _ (p q : ℕ) (lp : p < length A.states) (lq : q < n) where
    final_pair : final? P (p * n + q) ≡ (final? A p && final? B q)
    final_pair = ap (λ (s : State). s.final) (product_state A B p q lp lq)

    low_tag : (k : ℕ) → k < A.tags → carries? P (p * n + q) k ≡ carries? A p k
    low_tag k h = ap (λ (s : State). eqb (s.mask / 2 ^ k % 2) 1) (product_state A B p q lp lq) ∙ ap (λ z. eqb z 1) (bit_low _ _ k A.tags h)

    high_tag : (k : ℕ) → carries? P (p * n + q) (A.tags + k) ≡ carries? B q k
    high_tag k = ap (λ (s : State). eqb (s.mask / 2 ^ (A.tags + k) % 2) 1) (product_state A B p q lp lq) ∙ ap (λ z. eqb z 1) (bit_high _ _ k A.tags (sa.masks p))

  -- .. and what a rule of a pair forgets
  low_forget : (a b : Rule) (k : ℕ) → k < A.tags → forgets? (pair_rule n A.tags a b) k ≡ forgets? a k
  low_forget a b k h = ap (λ z. eqb z 1) (bit_low a.forget b.forget k A.tags h)

  high_forget : (a b : Rule) → In a A.rules → (k : ℕ) → forgets? (pair_rule n A.tags a b) (A.tags + k) ≡ forgets? b k
  high_forget a b ia k = ap (λ z. eqb z 1) (bit_high a.forget b.forget k A.tags (sa.forgets a ia))

  pub by_pair : (C : Rule → Type 0) → ((a b : Rule) → In a A.rules → In b B.rules → a.symbol ≡ b.symbol → C (pair_rule n A.tags a b)) → (r : Rule) → In r P.rules → C r
  by_pair C h r ir = let d = pair_of r ir in subst C (sym d.is) (h d.left d.right d.in_left d.in_right d.symbols)

  as_many : (a b : Rule) → In a A.rules → In b B.rules → a.symbol ≡ b.symbol → length a.children ≡ length b.children
  as_many a b ia ib e = cc (sa.as_many a ia, sb.as_many b ib)

  to_left : Carried P A
  to_left =
      record {
        f = λ z. z / n;
        g = λ k. k;
        brings = λ k. k < A.tags;
        rule = by_pair _ (λ a b ia ib e.
            let m = as_many a b ia ib e in (
              a,
              ia,
              refl,
              sym (digits_div a.target (sb.targets b ib)),
              sym (length_pair_numbers n a.children b.children m),
              λ j h.
                  let l : j < length a.children = omega (arith, length_pair_numbers n a.children b.children m) in
                  sym (ap (λ z. z / n) (pair_numbers_at n a.children b.children m j l) ∙ digits_div (get_or a.children j 0) (sb.children b ib _ (in_get_d 0 b.children j (omega arith)))),
              λ k h o. subst T (low_forget a b k h) o,
            ));
        final = by_pair _ (λ a b ia ib e h.
            rw (digits_div a.target (sb.targets b ib)) (T_and (final? A a.target) (final? B b.target) (subst T (final_pair a.target b.target (sa.targets a ia) (sb.targets b ib)) h)).0);
        tags = by_pair _ (λ a b ia ib e k h c. (
          omega arith,
          subst T (sym (low_tag a.target b.target (sa.targets a ia) (sb.targets b ib) k h)) (rw (digits_div a.target (sb.targets b ib)) at c),
          h,
        ));
      }

  to_right : Carried P B
  to_right =
      record {
        f = λ z. z % n;
        g = λ k. A.tags + k;
        brings = λ k. Unit {0};
        rule = by_pair _ (λ a b ia ib e.
            let m = as_many a b ia ib e in (
              b,
              ib,
              sym e,
              sym (digits_mod a.target (sb.targets b ib)),
              sym (length_pair_numbers n a.children b.children m ∙ m),
              λ j h.
                  let l : j < length a.children = omega (arith, length_pair_numbers n a.children b.children m) in
                  sym (ap (λ z. z % n) (pair_numbers_at n a.children b.children m j l) ∙ digits_mod (get_or a.children j 0) (sb.children b ib _ (in_get_d 0 b.children j (omega arith)))),
              λ k h o. subst T (high_forget a b ia k) o,
            ));
        final = by_pair _ (λ a b ia ib e h.
            rw (digits_mod a.target (sb.targets b ib)) (T_and (final? A a.target) (final? B b.target) (subst T (final_pair a.target b.target (sa.targets a ia) (sb.targets b ib)) h)).1);
        tags = by_pair _ (λ a b ia ib e k h c. (
          omega arith,
          subst T (sym (high_tag a.target b.target (sa.targets a ia) (sb.targets b ib) k)) (rw (digits_mod a.target (sb.targets b ib)) at c),
          tt,
        ));
      }

  both : (t : Tree) → Accepts A t → Accepts B t → Accepts P t
  both t v w = record { run = ρ; runs = step; accepting = accepts'; consistent = consistent' }
    where
      ρ : List ℕ → ℕ
      ρ p = v.run p * n + w.run p

      left_in : (p : List ℕ) (u : Tree) → at t p ≡ some u → v.run p < length A.states
      left_in p u e = let s = v.runs p u e in subst (◌< length A.states) s.leads (sa.targets s.rule s.listed)

      right_in : (p : List ℕ) (u : Tree) → at t p ≡ some u → w.run p < n
      right_in p u e = let s = w.runs p u e in subst (◌< n) s.leads (sb.targets s.rule s.listed)

      -- two moves make a move by the rule of the pair
      paired : (p : List ℕ) (u : Tree) (s : Move A v.run p u) (s' : Move B w.run p u) → (m : Move P ρ p u) × (m.rule ≡ pair_rule n A.tags s.rule s'.rule)
      paired p u s s' =
          let es = s.same_symbol ∙ sym s'.same_symbol in
          let m = as_many s.rule s'.rule s.listed s'.listed es in (
            record {
              rule = pair_rule n A.tags s.rule s'.rule;
              listed = of_pair s.rule s'.rule s.listed s'.listed es;
              same_symbol = s.same_symbol;
              leads = cc (s.leads, s'.leads);
              as_many = length_pair_numbers n s.rule.children s'.rule.children m ∙ s.as_many;
              from = λ j h. pair_numbers_at n s.rule.children s'.rule.children m j (omega (arith, s.as_many)) ∙ cc (s.from j h, s'.from j h);
            },
            refl,
          )

      step : (p : List ℕ) (u : Tree) → at t p ≡ some u → Move P ρ p u
      step p u e = (paired p u (v.runs p u e) (w.runs p u e)).0

      -- .. which forgets what one of the two forgets
      left_forgets : (k : ℕ) → k < A.tags → (q : List ℕ) → Forgets A t v.run k q → Forgets P t ρ k q
      left_forgets k h q o =
          let s' = w.runs q o.tree o.stands in
          let (m, is) = paired q o.tree o.move s' in
          record { tree = o.tree; stands = o.stands; move = m; forgotten = subst (λ (r : Rule). T (forgets? r k)) (sym is) (subst T (sym (low_forget o.move.rule s'.rule k h)) o.forgotten) }

      right_forgets : (k i : ℕ) → k ≡ A.tags + i → (q : List ℕ) → Forgets B t w.run i q → Forgets P t ρ k q
      right_forgets k i ek q o =
          let s = v.runs q o.tree o.stands in
          let (m, is) = paired q o.tree s o.move in
          subst (λ z. Forgets P t ρ z q) (sym ek)
          (record { tree = o.tree; stands = o.stands; move = m; forgotten = subst (λ (r : Rule). T (forgets? r (A.tags + i))) (sym is) (subst T (sym (high_forget s.rule o.move.rule s.listed i)) o.forgotten) })

      accepts' : T (final? P (ρ []))
      accepts' = subst T (sym (final_pair (v.run []) (w.run []) (left_in [] t refl) (right_in [] t refl))) (and_T (final? A (v.run [])) (final? B (w.run [])) v.accepting w.accepting)

      low : (k : ℕ) → k < A.tags → (p : List ℕ) (u : Tree) → at t p ≡ some u → T (carries? P (ρ p) k) → T (carries? A (v.run p) k)
      low k h p u e c = subst T (low_tag (v.run p) (w.run p) (left_in p u e) (right_in p u e) k h) c

      high : (k i : ℕ) → k ≡ A.tags + i → (p : List ℕ) (u : Tree) → at t p ≡ some u → T (carries? P (ρ p) k) → T (carries? B (w.run p) i)
      high k i ek p u e c = subst T (high_tag (v.run p) (w.run p) (left_in p u e) (right_in p u e) i) (subst (λ z. T (carries? P (ρ p) z)) ek c)

      consistent_if : (k : ℕ) → k < P.tags → Dec (k < A.tags) → (p p' : List ℕ) (u u' : Tree) → at t p ≡ some u → at t p' ≡ some u' → T (carries? P (ρ p) k) → T (carries? P (ρ p') k) → Together P t ρ k p p' → u ≡ u'
      consistent_if k h (yes l) p p' u u' e e' c c' g = v.consistent k l p p' u u' e e' (low k l p u e c) (low k l p' u' e' c') (λ q o. g q (left_forgets k l q o))
      consistent_if k h (no l) p p' u u' e e' c c' g =
          let i : ℕ = k - A.tags in
          let ek : k ≡ A.tags + i = omega arith in
          w.consistent i (omega arith) p p' u u' e e' (high k i ek p u e c) (high k i ek p' u' e' c') (λ q o. g q (right_forgets k i ek q o))

      consistent' : Consistent P t ρ
      consistent' k h = consistent_if k h (dec_lt k A.tags)

  pub demanded : (t : Tree) → Accepts P t ↔ (Accepts A t × Accepts B t)
  demanded t = (λ w. (carry to_left t w, carry to_right t w), λ w. both t w.0 w.1)
