-- The product of two sound automata is a sound automaton that accepts what both accept. Assumes nothing.
use mathlib.Core.Path.{◌≡◌, refl, sym, ap, ◌∙◌, subst}
use mathlib.Core.Logic.{◌↔◌, ⊎_elim}
use mathlib.Core.List.Memᴰ.{cases_cons as in_cons}
use mathlib.Core.List.Memᴰ.{head as here}
use mathlib.Core.List.Memᴰ.{not-nil}
use mathlib.Core.List.Memᴰ.{tail as there}
use mathlib.Core.List.{List, [], ◌∷◌, map, Memᴰ as In}
use mathlib.Core.Bool.{Bool, true, false}
use Prim.Native.Nat.{ℕ, ◌+◌, ◌*◌, ◌/◌, ◌%◌, ◌^◌, ◌<◌, ◌≤◌}
use native.Mathlib.Omega.{arith}
use native.Mathlib.Nat.{zero-mul}
use native.Mathlib.Decide.{dec_lt}
use lib.Dec.{eqb}
use lib.Arith.{digits_lt, digits_div, digits_mod}
use lib.Pow.{pow_pos}
use lib.ListN.{length, get_or-eq_default}
use Rattle.model.specs.Limits.{max_children, max_states, max_tags, max_rules}
use Rattle.model.specs.Lists.{concat_map, only}
use Rattle.model.specs.Tree.{Tree}
use Rattle.model.specs.Automaton.{Rule, State, Automaton, ForgetsNothing, Wellformed, no_state, state_at, arity_of}
use Rattle.model.specs.Order.{key, Ascending}
use Rattle.model.specs.Sound.{Sound}
use Rattle.model.specs.Run.{Accepts}
use Rattle.model.specs.Boolean.{pair_numbers, pair_rule, pair_rules, product}
use Rattle.model.proofs.Tab.{length_tab}
use Rattle.model.proofs.Pairwise.{Pairwise, pairwise_concat_map}
use Rattle.model.proofs.Order.{OtherKey, key_symbol_lem, key_target, key_children, same_key, ascending_other, length_sorted, sorted_ascending}
use Rattle.model.proofs.Combine.{mask_bound, length_pair_numbers, one_pair, pair_in, product_state_at, by_pair, demanded}

in_pair_numbers : (n : ℕ) (ps qs : List ℕ) {z : ℕ} → In z (pair_numbers n ps qs) → (p q : ℕ) × In p ps × In q qs × (z ≡ p * n + q)
in_pair_numbers n [] qs h = absurd (not-nil h)
in_pair_numbers n (p ∷ ps) [] h = absurd (not-nil h)
in_pair_numbers n (p ∷ ps) (q ∷ qs) h = ⊎_elim (λ e. (p, q, here refl, here refl, e)) (λ m. let (p', q', ip, iq, e) = in_pair_numbers n ps qs m in (p', q', there ip, there iq, e)) (in_cons h)

-- a pair's number tells the pair, so the key of a pair of rules tells both keys
numbers_back : (n : ℕ) (ps qs : List ℕ) → length ps ≡ length qs → ((q : ℕ) → In q qs → q < n) → (map (◌/ n) (pair_numbers n ps qs) ≡ ps) × (map (◌% n) (pair_numbers n ps qs) ≡ qs)
numbers_back n [] [] m h = (refl, refl)
numbers_back n [] (q ∷ qs) m h = let z : ⊥ = omega arith in absurd z
numbers_back n (p ∷ ps) [] m h = let z : ⊥ = omega arith in absurd z
numbers_back n (p ∷ ps) (q ∷ qs) m h =
    let l = h q (here refl) in
    let (a, b) = numbers_back n ps qs (omega arith) (λ x i. h x (there i)) in
    (cc (digits_div p l, a), cc (digits_mod p l, b))

-- How many states and rules the product has.
pub product_states : (A B : Automaton) → length (product A B).states ≡ length A.states * length B.states
product_states A B = length_tab (length A.states * length B.states) _

pub product_rules : (A B : Automaton) → length (product A B).rules ≡ length (pair_rules (length B.states) A.tags A.rules B.rules)
product_rules A B = length_sorted (pair_rules (length B.states) A.tags A.rules B.rules)

module _ (A B : Automaton) (wa : Wellformed A) (wb : Wellformed B) (same : A.arities ≡ B.arities) where
  abbrev P : Automaton
  P = product A B

  abbrev n : ℕ
  n = length B.states

  -- the rules that pair a rule of the first with those of the second
  abbrev pairs_of : Rule → Rule → List Rule
  pairs_of a b = only (eqb a.symbol b.symbol) (pair_rule n A.tags a b ∷ [])

  as_many : (a b : Rule) → In a A.rules → In b B.rules → a.symbol ≡ b.symbol → length a.children ≡ length b.children
  as_many a b ia ib e = cc (wa.as_many a ia, wb.as_many b ib)

  pub product_wellformed : Wellformed P
  product_wellformed =
      record {
        targets = by_pair A B wa wb same _ (λ a b ia ib e. inside a.target b.target (wa.targets a ia) (wb.targets b ib));
        children = by_pair A B wa wb same _
            (λ a b ia ib e z m.
            let (p, q, ip, iq, ez) = in_pair_numbers n a.children b.children m in
            subst (◌< length P.states) (sym ez) (inside p q (wa.children a ia p ip) (wb.children b ib q iq)));
        symbols = by_pair A B wa wb same _ (λ a b ia ib e. wa.symbols a ia);
        as_many = by_pair A B wa wb same _ (λ a b ia ib e. length_pair_numbers n a.children b.children (as_many a b ia ib e) ∙ wa.as_many a ia);
        masks = λ q. mask q (dec_lt q (length A.states * n));
        forgets = by_pair A B wa wb same _ (λ a b ia ib e. mask_bound a.forget b.forget A.tags B.tags (wa.forgets a ia) (wb.forgets b ib));
      }
    where
      inside : (p q : ℕ) → p < length A.states → q < n → p * n + q < length P.states
      inside p q lp lq = rw (product_states A B) (digits_lt lp lq)

      mask : (q : ℕ) → Dec (q < length A.states * n) → (state_at P q).mask < 2 ^ (A.tags + B.tags)
      mask q (yes l) = rw (product_state_at A B q l) (mask_bound _ _ A.tags B.tags (wa.masks (q / n)) (wb.masks (q % n)))
      mask q (no l) =
          subst (λ (s : State). s.mask < 2 ^ (A.tags + B.tags)) (sym (get_or-eq_default P.states no_state (omega (arith, product_states A B)))) (pow_pos (A.tags + B.tags))

  -- Where neither forgets a tag, the product forgets none.
  pub product_nothing : ForgetsNothing A → ForgetsNothing B → ForgetsNothing P
  product_nothing ha hb = by_pair A B wa wb same _ (λ a b ia ib e. rw (ha a ia, hb b ib) (ap (0 +◌) (zero-mul (2 ^ A.tags))))

  module _ (few : (s : ℕ) → arity_of A s ≤ max_children) where
    pair_key : (a b a' b' : Rule) → In a A.rules → In b B.rules → a.symbol ≡ b.symbol → In a' A.rules → In b' B.rules → a'.symbol ≡ b'.symbol → key (pair_rule n A.tags a b) ≡ key (pair_rule n A.tags a' b') → (key a ≡ key a') × (key b ≡ key b')
    pair_key a b a' b' ia ib e ia' ib' e' k =
        let p = pair_rule n A.tags a b in
        let p' = pair_rule n A.tags a' b' in
        let m = as_many a b ia ib e in
        let m' = as_many a' b' ia' ib' e' in
        let d = length_pair_numbers n a.children b.children m ∙ wa.as_many a ia in
        let d' = length_pair_numbers n a'.children b'.children m' ∙ wa.as_many a' ia' in
        let es : a.symbol ≡ a'.symbol = key_symbol_lem p p' k in
        let ec : p.children ≡ p'.children = key_children p p' (d ∙ ap (arity_of A) es ∙ sym d') (omega (arith, d, few a.symbol)) k in
        let et : p.target ≡ p'.target = key_target p p' k in
        let (c, c₂) = numbers_back n a.children b.children m (wb.children b ib) in
        let (c', c₂') = numbers_back n a'.children b'.children m' (wb.children b' ib') in (
          same_key a a' es (sym c ∙ ap (map (◌/ n)) ec ∙ c') (sym (digits_div a.target (wb.targets b ib)) ∙ ap (◌/ n) et ∙ digits_div a'.target (wb.targets b' ib')),
          same_key b b' (sym e ∙ es ∙ e') (sym c₂ ∙ ap (map (◌% n)) ec ∙ c₂') (sym (digits_mod a.target (wb.targets b ib)) ∙ ap (◌% n) et ∙ digits_mod a'.target (wb.targets b' ib')),
        )

    -- no two rules of the product have one key
    pub product_other : Ascending A.rules → Ascending B.rules → Pairwise OtherKey (pair_rules n A.tags A.rules B.rules)
    product_other ha hb =
        pairwise_concat_map OtherKey OtherKey (λ a. concat_map (pairs_of a) B.rules) A.rules
        (λ a ia.
        pairwise_concat_map OtherKey OtherKey (pairs_of a) B.rules
        (λ b ib. alone (eqb a.symbol b.symbol) (pair_rule n A.tags a b))
        (λ b b' ib ib' other r s ir is k.
        let (e, q) = one_pair n A.tags a b ir in
        let (e', q') = one_pair n A.tags a b' is in
        other (pair_key a b a b' ia ib e ia ib' e' (sym (ap key q) ∙ k ∙ ap key q')).1)
        (ascending_other B.rules hb))
        (λ a a' ia ia' other r s ir is k.
        let (b, ib, e, q) = pair_in n A.tags a B.rules ir in
        let (b', ib', e', q') = pair_in n A.tags a' B.rules is in
        other (pair_key a b a' b' ia ib e ia' ib' e' (sym (ap key q) ∙ k ∙ ap key q')).0)
        (ascending_other A.rules ha)
      where
        alone : (t : Bool) (r : Rule) → Pairwise OtherKey (only t (r ∷ []))
        alone true r = (λ s m. absurd (not-nil m), tt)
        alone false r = tt

module _ (A B : Automaton) (sa : Sound A) (sb : Sound B) (same : A.arities ≡ B.arities) where
  -- The product is sound where it is within the limits.
  pub product_sound : length A.states * length B.states ≤ max_states → A.tags + B.tags ≤ max_tags → length (pair_rules (length B.states) A.tags A.rules B.rules) ≤ max_rules → Sound (product A B)
  product_sound states tags rules =
      record {
        some_symbol = sa.some_symbol;
        few_symbols = sa.few_symbols;
        some_state = rw (product_states A B) (omega (arith, digits_lt sa.some_state sb.some_state));
        few_states = omega (arith, product_states A B);
        few_tags = tags;
        few_rules = omega (arith, product_rules A B);
        few_children = sa.few_children;
        wellformed = product_wellformed A B sa.wellformed sb.wellformed same;
        ascending = sorted_ascending (pair_rules (length B.states) A.tags A.rules B.rules) (product_other A B sa.wellformed sb.wellformed same sa.few_children sa.ascending sb.ascending);
      }

  -- The product accepts what both accept.
  pub product_accepts : (t : Tree) → Accepts (product A B) t ↔ (Accepts A t × Accepts B t)
  product_accepts = demanded A B sa.wellformed sb.wellformed same
