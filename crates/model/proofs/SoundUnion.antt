-- The union of two sound automata is a sound automaton that accepts what one of the two accepts. Assumes nothing.
use mathlib.Core.Path.{◌≡◌, sym, ap, ◌∙◌, subst}
use mathlib.Core.Logic.{◌⊎◌, inl, inr, ⊎_elim, ◌↔◌}
use mathlib.Core.List.{List, [], ◌∷◌, ◌++◌, map, Memᴰ as In}
use Prim.Native.Nat.{ℕ, zero, suc, ◌+◌, ◌-◌, ◌^◌, ◌<◌, ◌≤◌}
use native.Mathlib.Omega.{arith}
use native.Mathlib.Nat.{lt_of_lt_of_le, zero-mul}
use native.Mathlib.Decide.{dec_lt}
use lib.Dec.{T}
use lib.Pow.{pow_mono, pow_pos}
use lib.ListN.{length, get_or, length-append, length-map, get_or-eq_default}
use Rattle.model.specs.Limits.{max_children, max_states, max_tags, max_rules, unused}
use Rattle.model.specs.Lists.{tab}
use Rattle.model.specs.Tree.{Tree}
use Rattle.model.specs.Automaton.{Rule, Automaton, ForgetsNothing, Wellformed, state_at, arity_of}
use Rattle.model.specs.Order.{place, lower?, Ascending}
use Rattle.model.specs.Sound.{Sound}
use Rattle.model.specs.Run.{Accepts}
use Rattle.model.specs.Boolean.{shift_rule, union}
use Rattle.model.proofs.Members.{in_map, map_at}
use Rattle.model.proofs.Pairwise.{Pairwise, pairwise_append, pairwise_map}
use Rattle.model.proofs.Order.{Before, OtherKey, lower_cons, key_target, ascending_pairwise, pairwise_ascending, ascending_other, length_sorted, sorted_ascending}
use Rattle.model.proofs.Combine.{mask_bound}
use Rattle.model.proofs.Union.{union_first, union_second, rule_of_lem, either}

-- a key after its symbol: m places, then the target
abbrev rest : ℕ → (ℕ → ℕ) → ℕ → List ℕ
rest m f t = tab m f ++ t ∷ []

-- what keeps the order at each place and of the targets keeps the order of keys
lower_rest : (m : ℕ) (f g f' g' : ℕ → ℕ) (a b a' b' : ℕ) → ((k : ℕ) → (f k < g k → f' k < g' k) × (f k ≡ g k → f' k ≡ g' k)) → (a < b → a' < b') → T (lower? (rest m f a) (rest m g b)) → T (lower? (rest m f' a') (rest m g' b'))
lower_rest zero f g f' g' a b a' b' h t l = (lower_cons a' b' [] []).1 (⊎_elim (λ d. inl (t d)) (λ (e, n). absurd n) ((lower_cons a b [] []).0 l))
lower_rest (suc m) f g f' g' a b a' b' h t l =
    (lower_cons (f' 0) (g' 0) (rest m (λ k. f' (suc k)) a') (rest m (λ k. g' (suc k)) b')).1
    (⊎_elim
    (λ d. inl ((h 0).0 d))
    (λ (e, n). inr ((h 0).1 e, lower_rest m (λ k. f (suc k)) (λ k. g (suc k)) (λ k. f' (suc k)) (λ k. g' (suc k)) a b a' b' (λ k. h (suc k)) t n))
    ((lower_cons (f 0) (g 0) (rest m (λ k. f (suc k)) a) (rest m (λ k. g (suc k)) b)).0 l))

-- Shifting keeps the order of rules where a symbol has one number of children: an unused place stays what it is.
pub shift_before : (n t : ℕ) (r s : Rule) → (r.symbol ≡ s.symbol → length r.children ≡ length s.children) → Before r s → Before (shift_rule n t r) (shift_rule n t s)
shift_before n t r s many h =
    (lower_cons r.symbol s.symbol (rest max_children (place (shift_rule n t r)) (n + r.target)) (rest max_children (place (shift_rule n t s)) (n + s.target))).1
    (⊎_elim inl
    (λ (e, l). inr (e, lower_rest max_children (place r) (place s) (place (shift_rule n t r)) (place (shift_rule n t s)) r.target s.target (n + r.target) (n + s.target) (at (many e)) (λ d. omega arith) l))
    ((lower_cons r.symbol s.symbol (rest max_children (place r) r.target) (rest max_children (place s) s.target)).0 h))
  where
    used : (x : Rule) (k : ℕ) → k < length x.children → place (shift_rule n t x) k ≡ n + place x k
    used x k l = map_at (n +◌) unused unused x.children k l

    free : (x : Rule) (k : ℕ) → length x.children ≤ k → (place x k ≡ unused) × (place (shift_rule n t x) k ≡ unused)
    free x k l = (get_or-eq_default x.children unused l, get_or-eq_default (map (n +◌) x.children) unused (omega (arith, length-map x.children (n +◌))))

    at : length r.children ≡ length s.children → (k : ℕ) → (place r k < place s k → place (shift_rule n t r) k < place (shift_rule n t s) k) × (place r k ≡ place s k → place (shift_rule n t r) k ≡ place (shift_rule n t s) k)
    at m k = go (dec_lt k (length r.children))
      where
        go : Dec (k < length r.children) → (place r k < place s k → place (shift_rule n t r) k < place (shift_rule n t s) k) × (place r k ≡ place s k → place (shift_rule n t r) k ≡ place (shift_rule n t s) k)
        go (yes l) = let ur = used r k l in let us = used s k (omega arith) in (λ d. omega (arith, ur, us), λ e. omega (arith, ur, us))
        go (no l) = let (pr, qr) = free r k (omega arith) in let (ps, qs) = free s k (omega arith) in (λ d. let z : ⊥ = omega (arith, pr, ps) in absurd z, λ e. qr ∙ sym qs)

pub shift_ascending : (A : Automaton) → Wellformed A → Ascending A.rules → (n t : ℕ) → Ascending (map (shift_rule n t) A.rules)
shift_ascending A w h n t =
    pairwise_ascending (map (shift_rule n t) A.rules)
    (pairwise_map Before Before (shift_rule n t) A.rules
    (λ r s ir is. shift_before n t r s (λ e. w.as_many r ir ∙ ap (arity_of A) e ∙ sym (w.as_many s is)))
    (ascending_pairwise A.rules h))

-- the rules of the union before they are sorted
abbrev pub union_rules : Automaton → Automaton → List Rule
union_rules A B = A.rules ++ map (shift_rule (length A.states) A.tags) B.rules

-- How many states and rules the union has.
pub union_states : (A B : Automaton) → length (union A B).states ≡ length A.states + length B.states
union_states A B = length-append A.states _ ∙ ap (length A.states +◌) (length-map B.states _)

pub union_rules_lem : (A B : Automaton) → length (union A B).rules ≡ length A.rules + length B.rules
union_rules_lem A B =
    length_sorted (union_rules A B)
    ∙ length-append A.rules (map (shift_rule (length A.states) A.tags) B.rules)
    ∙ ap (length A.rules +◌) (length-map B.rules (shift_rule (length A.states) A.tags))

module _ (A B : Automaton) (wa : Wellformed A) (wb : Wellformed B) where
  abbrev U : Automaton
  U = union A B

  abbrev n : ℕ
  n = length A.states

  -- no two rules of the union have one key: the targets of the first's are below n, the others' are not
  pub union_other : Ascending A.rules → Ascending B.rules → Pairwise OtherKey (union_rules A B)
  union_other a b =
      pairwise_append OtherKey A.rules (map (shift_rule n A.tags) B.rules) (ascending_other A.rules a) (ascending_other (map (shift_rule n A.tags) B.rules) (shift_ascending B wb b n A.tags))
      (λ r s ir is e. let (s', is', q) = in_map (shift_rule n A.tags) B.rules is in omega (arith, wa.targets r ir, key_target r s e, ap (λ (x : Rule). x.target) q))

  by_rule_lem : (C : Rule → Type 0) → ((r : Rule) → In r A.rules → C r) → ((r : Rule) → In r B.rules → C (shift_rule n A.tags r)) → (r : Rule) → In r U.rules → C r
  by_rule_lem C a b r ir = ⊎_elim (a r) (λ (s, is, e). subst C (sym e) (b s is)) (rule_of_lem A B wa wb r ir)

  -- Where neither forgets a tag, the union forgets none.
  pub union_nothing : ForgetsNothing A → ForgetsNothing B → ForgetsNothing U
  union_nothing a b = by_rule_lem _ a (λ r ir. rw (b r ir) (zero-mul (2 ^ A.tags)))

  module _ (same : A.arities ≡ B.arities) where
    pub union_wellformed : Wellformed U
    union_wellformed =
        record {
          targets = by_rule_lem _ (λ r ir. omega (arith, wa.targets r ir, union_states A B)) (λ r ir. omega (arith, wb.targets r ir, union_states A B));
          children = by_rule_lem _
              (λ r ir q m. omega (arith, wa.children r ir q m, union_states A B))
              (λ r ir q m. let (x, ix, e) = in_map (n +◌) r.children m in omega (arith, wb.children r ir x ix, union_states A B));
          symbols = by_rule_lem _ wa.symbols (λ r ir. omega (arith, wb.symbols r ir, ap length same));
          as_many = by_rule_lem _ wa.as_many (λ r ir. length-map r.children (n +◌) ∙ wb.as_many r ir ∙ ap (λ (l : List ℕ). get_or l r.symbol 0) (sym same));
          masks = λ q. mask q (dec_lt q n);
          forgets = by_rule_lem _ (λ r ir. lt_of_lt_of_le (wa.forgets r ir) (pow_mono (omega arith))) (λ r ir. omega (arith, mask_bound 0 r.forget A.tags B.tags (pow_pos A.tags) (wb.forgets r ir)));
        }
      where
        mask : (q : ℕ) → Dec (q < n) → (state_at U q).mask < 2 ^ (A.tags + B.tags)
        mask q (yes l) = rw (union_first A B q l) (lt_of_lt_of_le (wa.masks q) (pow_mono (omega arith)))
        mask q (no l) =
            let e : q ≡ n + (q - n) = omega arith in
            subst (λ z. (state_at U z).mask < 2 ^ (A.tags + B.tags)) (sym e)
            (rw (union_second A B (q - n)) (omega (arith, mask_bound 0 (state_at B (q - n)).mask A.tags B.tags (pow_pos A.tags) (wb.masks (q - n)))))

module _ (A B : Automaton) (sa : Sound A) (sb : Sound B) (same : A.arities ≡ B.arities) where
  -- The union is sound where it is within the limits.
  pub union_sound : length A.states + length B.states ≤ max_states → A.tags + B.tags ≤ max_tags → length A.rules + length B.rules ≤ max_rules → Sound (union A B)
  union_sound states tags rules =
      record {
        some_symbol = sa.some_symbol;
        few_symbols = sa.few_symbols;
        some_state = omega (arith, sa.some_state, union_states A B);
        few_states = omega (arith, union_states A B);
        few_tags = tags;
        few_rules = omega (arith, union_rules_lem A B);
        few_children = sa.few_children;
        wellformed = union_wellformed A B sa.wellformed sb.wellformed same;
        ascending = sorted_ascending (union_rules A B) (union_other A B sa.wellformed sb.wellformed sa.ascending sb.ascending);
      }

  -- The union accepts what one of the two accepts.
  pub union_accepts : (t : Tree) → Accepts (union A B) t ↔ (Accepts A t ⊎ Accepts B t)
  union_accepts = either A B sa.wellformed sb.wellformed
