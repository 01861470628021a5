-- Keys of rules: they ascend as the rules do, and the rule is read off its key. Assumes nothing.
use mathlib.Core.Path.{◌≡◌, refl, sym, ap, ◌∙◌, subst}
use mathlib.Core.Logic.{◌⊎◌, inl, inr, ⊎_elim}
use mathlib.Core.List.Memᴰ.{head as here}
use mathlib.Core.List.Memᴰ.{tail as there}
use mathlib.Core.List.{List, [], ◌∷◌, ◌++◌, map, Memᴰ as In}
use mathlib.Core.Bool.{Bool, true, false, cond}
use Prim.Native.Nat.{ℕ, zero, suc, ◌+◌, ◌-◌, ◌*◌, ◌/◌, ◌%◌, ◌^◌, ◌<◌, ◌≤◌}
use native.Mathlib.Nat.{div-one, mul-zero, mul-le-mul, lt_of_lt_of_le, mod-lt, mod-eq_of_lt}
use native.Mathlib.Numerals.{add-one}
use native.Mathlib.Omega.{arith}
use native.Mathlib.Decide.{dec_lt}
use borrow.Author.Tests.{lt-ltb, le-ltb}
use lib.Dec.{T, ltb, ltb→lt, lt→ltb}
use lib.Arith.{digits_lt}
use lib.Pow.{pow-add, pow_mono, pow_pos, shr-shr, high, low}
use lib.ListN.{length, get_or, get_or-map, get_or-eq_default}
use Rattle.model.specs.Limits.{max_children, max_states, unused}
use Rattle.model.specs.Lists.{concat_map, tab}
use Rattle.model.specs.Automaton.{Rule, Automaton}
use Rattle.model.specs.Order.{place, key, lower?, before?, insert, sorted}
use Rattle.model.specs.Sound.{Sound}
use Rattle.model.proofs.Rows.{in_get_d}
use Rattle.model.proofs.Tab.{tab_at, tab_past, tab_same, tab_snoc}
use Rattle.model.proofs.Order.{Before, before_total, lower_cons, ascending_other, one_key, in_sorted}
use Rattle.automaton.specs.declared.Form.{Form}
use Rattle.automaton.specs.Encode.{encode_rule}
use Rattle.automaton.specs.declared.State.{State}
use Rattle.automaton.proofs.Parts.{tab_is}
use Rattle.boolean.specs.Merge.{insert_number, ordered}
use Rattle.boolean.specs.Key.{digit_width, mask_width, pushed, pushed_all, digits_of, masked, key_of, packed, digit_at, place_at, unpacked, encode_key}

-- the numbers of the states in a rule's places
abbrev pub numbers : List State → List ℕ
numbers = map (λ q. q.0)

pub number_at : (places : List State) (k : ℕ) → (get_or places k (record { 0 = 0 })).0 ≡ get_or (numbers places) k 0
number_at places k = sym (get_or-map (λ q. q.0) places k (record { 0 = 0 }))

-- a rule that a key has room for, with so many children for each symbol
pub record Small (arities : List ℕ) (r : Rule) : Type 0 where
  pub symbol : r.symbol < max_states
  pub target : r.target < max_states
  pub children : (q : ℕ) → In q r.children → q < max_states
  pub as_many : length r.children ≡ get_or arities r.symbol 0
  pub few : length r.children ≤ max_children
  pub forget : r.forget < 2 ^ mask_width

-- the rules of a sound automaton are small
pub small_of : (A : Automaton) → Sound A → (r : Rule) → In r A.rules → Small A.arities r
small_of A sound r m = record {
  symbol = omega (arith, sound.wellformed.symbols r m, sound.few_symbols);
  target = omega (arith, sound.wellformed.targets r m, sound.few_states);
  children = λ q i. omega (arith, sound.wellformed.children r m q i, sound.few_states);
  as_many = sound.wellformed.as_many r m;
  few = omega (arith, sound.wellformed.as_many r m, sound.few_children r.symbol);
  forget = lt_of_lt_of_le (sound.wellformed.forgets r m) (pow_mono sound.few_tags);
}

-- digits from the left: what is higher stays higher, whatever comes behind
pushed_less : (x y p q : ℕ) → x < y → pushed x p < pushed y q
unfolding pushed
pushed_less x y p q l = omega (arith, mod-lt p (pow_pos digit_width))

-- what stands at one place of two rules with one symbol: two states, or the same
abbrev Alike : ℕ → ℕ → Type 0
Alike p q = ((p < max_states) × (q < max_states)) ⊎ (p ≡ q)

pushed_more : (x p q : ℕ) → Alike p q → p < q → pushed x p < pushed x q
unfolding pushed
pushed_more x p q (inl (a, b)) l = omega (arith, mod-eq_of_lt a, mod-eq_of_lt b)
pushed_more x p q (inr e) l = absurd (omega arith)

-- digits with those of a list more, from the left
pushed_on : ℕ → List ℕ → ℕ
pushed_on x [] = x
pushed_on x (p ∷ ps) = pushed_on (pushed x p) ps

pushed_on_last : (x : ℕ) (ps : List ℕ) (p : ℕ) → pushed_on x (ps ++ p ∷ []) ≡ pushed (pushed_on x ps) p
unfolding pushed_on
pushed_on_last x [] p = refl
pushed_on_last x (q ∷ ps) p = pushed_on_last (pushed x q) ps p

pushed_on_all : (x n : ℕ) (f : ℕ → ℕ) → pushed_on x (tab n f) ≡ pushed_all x n f
unfolding pushed_on
pushed_on_all x zero f = refl
pushed_on_all x (suc n) f = ap (pushed_on x) (tab_snoc n f) ∙ pushed_on_last x (tab n f) (f n) ∙ ap (λ (y : ℕ). pushed y (f n)) (pushed_on_all x n f)

abbrev digits : Rule → ℕ
digits r = digits_of r.symbol (place r) r.target

digits_on : (r : Rule) → pushed_on 0 (key r) ≡ digits r
unfolding pushed_on
digits_on r = pushed_on_last (pushed 0 r.symbol) (tab max_children (place r)) r.target ∙ ap (λ (y : ℕ). pushed y r.target) (pushed_on_all (pushed 0 r.symbol) max_children (place r))

pushed_on_less : (x y : ℕ) (ps qs : List ℕ) → length ps ≡ length qs → x < y → pushed_on x ps < pushed_on y qs
unfolding pushed_on
pushed_on_less x y [] [] e l = l
pushed_on_less x y [] (q ∷ qs) e l = absurd (omega arith)
pushed_on_less x y (p ∷ ps) [] e l = absurd (omega arith)
pushed_on_less x y (p ∷ ps) (q ∷ qs) e l = pushed_on_less (pushed x p) (pushed y q) ps qs (omega arith) (pushed_less x y p q l)

-- lists that are alike at each place
abbrev Alikes : List ℕ → List ℕ → Type 0
Alikes [] qs = Unit {0}
Alikes (p ∷ ps) [] = Unit {0}
Alikes (p ∷ ps) (q ∷ qs) = Alike p q × Alikes ps qs

alikes_rest : (n : ℕ) (f g : ℕ → ℕ) (a b : ℕ) → ((k : ℕ) → Alike (f k) (g k)) → Alike a b → Alikes (tab n f ++ a ∷ []) (tab n g ++ b ∷ [])
alikes_rest zero f g a b h t = (t, tt)
alikes_rest (suc n) f g a b h t = (h 0, alikes_rest n (λ k. f (suc k)) (λ k. g (suc k)) a b (λ k. h (suc k)) t)

-- the first digits that differ decide
pushed_on_lower : (x : ℕ) (ps qs : List ℕ) → length ps ≡ length qs → Alikes ps qs → T (lower? ps qs) → pushed_on x ps < pushed_on x qs
unfolding pushed_on
pushed_on_lower x [] qs e h l = absurd l
pushed_on_lower x (p ∷ ps) [] e h l = absurd l
pushed_on_lower x (p ∷ ps) (q ∷ qs) e (a, h) l =
    ⊎_elim
    (λ d. pushed_on_less (pushed x p) (pushed x q) ps qs (omega arith) (pushed_more x p q a d))
    (λ (s, m). subst (λ (z : ℕ). pushed_on (pushed x p) ps < pushed_on (pushed x z) qs) s (pushed_on_lower (pushed x p) ps qs (omega arith) h m))
    ((lower_cons p q ps qs).0 l)

masked_less : (x y m n : ℕ) → x < y → masked x m < masked y n
unfolding masked
masked_less x y m n l = omega (arith, mod-lt m (pow_pos mask_width))

module _ (arities : List ℕ) (r s : Rule) (hr : Small arities r) (hs : Small arities s) where
  places_alike : r.symbol ≡ s.symbol → (k : ℕ) → Alike (place r k) (place s k)
  places_alike e k = go (dec_lt k (length r.children))
    where
      same : length r.children ≡ length s.children
      same = hr.as_many ∙ ap (λ (f : ℕ). get_or arities f 0) e ∙ sym hs.as_many

      go : Dec (k < length r.children) → Alike (place r k) (place s k)
      go (yes l) = let z = same in inl (hr.children (place r k) (in_get_d unused r.children k l), hs.children (place s k) (in_get_d unused s.children k (omega arith)))
      go (no l) = let z = same in inr (get_or-eq_default r.children unused (omega arith) ∙ sym (get_or-eq_default s.children unused (omega arith)))

  key_less : Before r s → pushed_on 0 (key r) < pushed_on 0 (key s)
  unfolding pushed_on
  key_less h =
      ⊎_elim
      (λ d. pushed_on_less (pushed 0 r.symbol) (pushed 0 s.symbol) (rest r) (rest s) refl (pushed_more 0 r.symbol s.symbol (inl (hr.symbol, hs.symbol)) d))
      (λ (e, l).
      subst (λ (z : ℕ). pushed_on (pushed 0 r.symbol) (rest r) < pushed_on (pushed 0 z) (rest s)) e
      (pushed_on_lower (pushed 0 r.symbol) (rest r) (rest s) refl (alikes_rest max_children (place r) (place s) r.target s.target (places_alike e) (inl (hr.target, hs.target))) l))
      ((lower_cons r.symbol s.symbol (rest r) (rest s)).0 h)
    where
      rest : Rule → List ℕ
      rest x = tab max_children (place x) ++ x.target ∷ []

  -- A rule that stands before another has the lower key.
  packed_less : Before r s → packed r < packed s
  packed_less h = masked_less (digits r) (digits s) r.forget s.forget (let l = key_less h in omega (arith, digits_on r, digits_on s))

same_test : (a b : Bool) → (T a → T b) → (T b → T a) → a ≡ b
same_test true true f g = refl
same_test true false f g = absurd (f tt)
same_test false true f g = absurd (g tt)
same_test false false f g = refl

-- Of a sound automaton, in which a rule stands once, sorting the keys of rules gives the keys of the rules sorted.
module _ (A : Automaton) (sound : Sound A) where
  packed_order : (r s : Rule) → In r A.rules → In s A.rules → ltb (packed r) (packed s) ≡ before? r s
  packed_order r s ir is = same_test (ltb (packed r) (packed s)) (before? r s) (λ l. back (ltb→lt (packed r) (packed s) l) (before_total r s)) (λ h. lt→ltb (packed r) (packed s) (less r s ir is h))
    where
      less : (r s : Rule) → In r A.rules → In s A.rules → Before r s → packed r < packed s
      less r s ir is = packed_less A.arities r s (small_of A sound r ir) (small_of A sound s is)

      back : packed r < packed s → Before r s ⊎ ((key r ≡ key s) ⊎ Before s r) → Before r s
      back l (inl h) = h
      back l (inr (inl e)) = let z = ap packed (one_key A.rules (ascending_other A.rules sound.ascending) ir is e) in absurd (omega arith)
      back l (inr (inr h)) = let z = less s r is ir h in absurd (omega arith)

  insert_packed : (r : Rule) (rs : List Rule) → In r A.rules → ((s : Rule) → In s rs → In s A.rules) → insert_number (packed r) (map packed rs) ≡ map packed (insert r rs)
  insert_packed r [] ir is = refl
  insert_packed r (s ∷ rs) ir is = go (before? s r) (packed_order s r (is s (here refl)) ir) (insert_packed r rs ir (λ z m. is z (there m)))
    where
      go : (b : Bool) → ltb (packed s) (packed r) ≡ b → insert_number (packed r) (map packed rs) ≡ map packed (insert r rs) → cond (ltb (packed s) (packed r)) (packed s ∷ insert_number (packed r) (map packed rs)) (packed r ∷ packed s ∷ map packed rs) ≡ map packed (cond b (s ∷ insert r rs) (r ∷ s ∷ rs))
      go true e ih = ap (λ (t : Bool). cond t (packed s ∷ insert_number (packed r) (map packed rs)) (packed r ∷ packed s ∷ map packed rs)) e ∙ ap (packed s ∷◌) ih
      go false e ih = ap (λ (t : Bool). cond t (packed s ∷ insert_number (packed r) (map packed rs)) (packed r ∷ packed s ∷ map packed rs)) e

  pub ordered_packed : (rs : List Rule) → ((r : Rule) → In r rs → In r A.rules) → ordered (map packed rs) ≡ map packed (sorted rs)
  ordered_packed [] h = refl
  ordered_packed (r ∷ rs) h = ap (insert_number (packed r)) (ordered_packed rs (λ s m. h s (there m))) ∙ insert_packed r (sorted rs) (h r (here refl)) (λ s m. h s (there (in_sorted rs m)))

-- digit k of digits alone, counted from their end
digit : ℕ → ℕ → ℕ
digit x k = x / 2 ^ (digit_width * k) % 2 ^ digit_width

digit_masked : (x m k : ℕ) → digit_at (masked x m) k ≡ digit x k
unfolding digit_at masked digit
digit_masked x m k =
    ap (λ (z : ℕ). z % 2 ^ digit_width) (sym (shr-shr (x * 2 ^ mask_width + m % 2 ^ mask_width) mask_width (digit_width * k)))
    ∙ ap (λ (z : ℕ). z / 2 ^ (digit_width * k) % 2 ^ digit_width) (high x mask_width (mod-lt m (pow_pos mask_width)))

mask_masked : (x m : ℕ) → masked x m % 2 ^ mask_width ≡ m % 2 ^ mask_width
unfolding masked
mask_masked x m = low x mask_width (mod-lt m (pow_pos mask_width))

-- the last of the digits, and those before it
digit_last : (x p : ℕ) → digit (pushed x p) 0 ≡ p % 2 ^ digit_width
unfolding digit pushed
digit_last x p =
    ap (λ (z : ℕ). (x * 2 ^ digit_width + p % 2 ^ digit_width) / 2 ^ z % 2 ^ digit_width) (mul-zero digit_width)
    ∙ ap (λ (z : ℕ). z % 2 ^ digit_width) (div-one (x * 2 ^ digit_width + p % 2 ^ digit_width))
    ∙ low x digit_width (mod-lt p (pow_pos digit_width))

digit_before : (x p k : ℕ) → digit (pushed x p) (suc k) ≡ digit x k
unfolding digit pushed
digit_before x p k =
    ap (λ (z : ℕ). (x * 2 ^ digit_width + p % 2 ^ digit_width) / 2 ^ z % 2 ^ digit_width) (let z : digit_width * suc k ≡ digit_width + digit_width * k = omega arith in z)
    ∙ ap (λ (z : ℕ). z % 2 ^ digit_width) (sym (shr-shr (x * 2 ^ digit_width + p % 2 ^ digit_width) digit_width (digit_width * k)))
    ∙ ap (λ (z : ℕ). z / 2 ^ (digit_width * k) % 2 ^ digit_width) (high x digit_width (mod-lt p (pow_pos digit_width)))

digit_within : (x n : ℕ) (f : ℕ → ℕ) (k : ℕ) → k < n → digit (pushed_all x n f) (n - suc k) ≡ f k % 2 ^ digit_width
digit_within x zero f k l = absurd (omega arith)
digit_within x (suc n) f k l = go (dec_lt k n) (digit_within x n f k)
  where
    go : Dec (k < n) → (k < n → digit (pushed_all x n f) (n - suc k) ≡ f k % 2 ^ digit_width) → digit (pushed (pushed_all x n f) (f n)) (suc n - suc k) ≡ f k % 2 ^ digit_width
    go (yes h) ih = ap (digit (pushed (pushed_all x n f) (f n))) (let z : suc n - suc k ≡ suc (n - suc k) = omega arith in z) ∙ digit_before (pushed_all x n f) (f n) (n - suc k) ∙ ih h
    go (no h) ih =
        let e : k ≡ n = omega arith in
        ap (digit (pushed (pushed_all x n f) (f n))) (let z : suc n - suc k ≡ 0 = omega arith in z) ∙ digit_last (pushed_all x n f) (f n) ∙ ap (λ (z : ℕ). f z % 2 ^ digit_width) (sym e)

digit_first : (x n : ℕ) (f : ℕ → ℕ) (k : ℕ) → digit (pushed_all x n f) (n + k) ≡ digit x k
digit_first x zero f k = ap (digit x) (omega arith)
digit_first x (suc n) f k = ap (digit (pushed (pushed_all x n f) (f n))) (let z : suc n + k ≡ suc (n + k) = omega arith in z) ∙ digit_before (pushed_all x n f) (f n) (n + k) ∙ digit_first x n f k

-- The rule is read off its key.
pub unpacked_packed : (arities : List ℕ) (r : Rule) → Small arities r → unpacked arities (packed r) ≡ r
unpacked_packed arities r h = λ i. record { symbol = symbol i; children = children i; target = target i; forget = forget i }
  where
    body : ℕ
    body = pushed_all (pushed 0 r.symbol) max_children (place r)

    symbol : digit_at (packed r) (max_children + 1) ≡ r.symbol
    symbol =
        digit_masked (digits r) r.forget (max_children + 1)
        ∙ digit_before body r.target max_children
        ∙ digit_first (pushed 0 r.symbol) max_children (place r) 0
        ∙ digit_last 0 r.symbol
        ∙ mod-eq_of_lt h.symbol

    child : (k : ℕ) → k < length r.children → digit_at (packed r) (max_children - k) ≡ place r k
    child k l =
        let few = h.few in
        digit_masked (digits r) r.forget (max_children - k)
        ∙ ap (digit (digits r)) (let z : max_children - k ≡ suc (max_children - suc k) = omega arith in z)
        ∙ digit_before body r.target (max_children - suc k)
        ∙ digit_within (pushed 0 r.symbol) max_children (place r) k (omega arith)
        ∙ mod-eq_of_lt (h.children (place r k) (in_get_d unused r.children k l))

    children : tab (get_or arities (digit_at (packed r) (max_children + 1)) 0) (λ k. digit_at (packed r) (max_children - k)) ≡ r.children
    children = tab_is unused r.children _ (λ k. digit_at (packed r) (max_children - k)) (ap (λ (f : ℕ). get_or arities f 0) symbol ∙ sym h.as_many) child

    target : digit_at (packed r) 0 ≡ r.target
    target = digit_masked (digits r) r.forget 0 ∙ digit_last body r.target ∙ mod-eq_of_lt h.target

    forget : packed r % 2 ^ mask_width ≡ r.forget
    forget = mask_masked (digits r) r.forget ∙ mod-eq_of_lt h.forget

pub encode_packed : (form : Form) (arities : List ℕ) (rs : List Rule) → ((r : Rule) → In r rs → Small arities r) → concat_map (encode_key form arities) (map packed rs) ≡ concat_map (encode_rule form) rs
encode_packed form arities [] h = refl
encode_packed form arities (r ∷ rs) h =
    ap (λ (z : Rule). encode_rule form z ++ concat_map (encode_key form arities) (map packed rs)) (unpacked_packed arities r (h r (here refl)))
    ∙ ap (encode_rule form r ++◌) (encode_packed form arities rs (λ s m. h s (there m)))

-- the child places that were read off a key are those of its rule
pub unpacked_places : (arities : List ℕ) (x n : ℕ) → n ≡ get_or arities (digit_at x (max_children + 1)) 0 → tab max_children (place_at x n) ≡ tab max_children (place (unpacked arities x))
unfolding place_at
unpacked_places arities x n e = ap (λ (m : ℕ). tab max_children (place_at x m)) e ∙ tab_same max_children (place_at x count) (place (unpacked arities x)) (λ k l. go k (dec_lt k count))
  where
    count : ℕ
    count = get_or arities (digit_at x (max_children + 1)) 0

    go : (k : ℕ) → Dec (k < count) → place_at x count k ≡ place (unpacked arities x) k
    go k (yes l) = rw (lt-ltb k count l) (sym (tab_at unused count (λ j. digit_at x (max_children - j)) k l))
    go k (no l) = rw (le-ltb k count (omega arith)) (sym (tab_past unused count (λ j. digit_at x (max_children - j)) k (omega arith)))

-- k digits with one more
pub push_bound : (x d k : ℕ) → x < 2 ^ (digit_width * k) → d < 2 ^ digit_width → x * 2 ^ digit_width + d < 2 ^ (digit_width * (k + 1))
push_bound x d k l m =
    let e : digit_width * (k + 1) ≡ digit_width * k + digit_width = omega arith in
    subst (x * 2 ^ digit_width + d <◌) (sym (ap (2 ^◌) e ∙ pow-add 2 (digit_width * k) digit_width)) (digits_lt l m)

-- fewer digits are below as many as there is room for
pub few_digits : (x k n : ℕ) → x < 2 ^ (digit_width * k) → k ≤ n → x < 2 ^ (digit_width * n)
few_digits x k n l m = lt_of_lt_of_le l (pow_mono (let z : digit_width * k ≤ digit_width * n = omega arith in z))

push_low : (x p k : ℕ) → x < 2 ^ (digit_width * k) → pushed x p < 2 ^ (digit_width * (k + 1))
unfolding pushed
push_low x p k l = push_bound x (p % 2 ^ digit_width) k l (mod-lt p (pow_pos digit_width))

-- A loop that makes a key: at its head x has the symbol and k places.
pub record Pushing (symbol : ℕ) (f : ℕ → ℕ) (x k : ℕ) : Type 0 where
  pub is : x ≡ pushed_all (pushed 0 symbol) k f
  pub low : x < 2 ^ (digit_width * (k + 1))
  pub few : k ≤ max_children

module _ (symbol : ℕ) (f : ℕ → ℕ) (x : ℕ) where
  pub pushing_none : x ≡ pushed 0 symbol → Pushing symbol f x 0
  pushing_none e = record { is = e; low = subst (λ (z : ℕ). z < 2 ^ (digit_width * (0 + 1))) (sym e) (push_low 0 symbol 0 (omega arith)); few = omega arith }

  module _ (k : ℕ) (h : Pushing symbol f x k) where
    pub pushing_more : (p y : ℕ) → k < max_children → p ≡ f k → y ≡ pushed x p → Pushing symbol f y (k + 1)
    pushing_more p y l ep ey = record {
      is = ey ∙ ap (pushed x) ep ∙ ap (λ (z : ℕ). pushed z (f k)) h.is ∙ ap (λ (n : ℕ). pushed_all (pushed 0 symbol) n f) (sym (add-one k));
      low = subst (λ (z : ℕ). z < 2 ^ (digit_width * (k + 1 + 1))) (sym ey) (push_low x p (k + 1) h.low);
      few = omega arith;
    }

    -- .. with the target it has room for the tags to forget ..
    pub pushing_last : (y t : ℕ) → y ≡ pushed x t → y < 2 ^ (digit_width * 6)
    pushing_last y t e = few_digits y (k + 1 + 1) 6 (subst (λ (z : ℕ). z < 2 ^ (digit_width * (k + 1 + 1))) (sym e) (push_low x t (k + 1) h.low)) (let m = h.few in omega arith)

    -- .. and with these it is whole.
    pub pushing_all : (y t z mask : ℕ) → max_children ≤ k → y ≡ pushed x t → z ≡ masked y mask → z ≡ key_of symbol f t mask
    pushing_all y t z mask l ey ez =
        ez ∙ ap (λ (x : ℕ). masked x mask) (ey ∙ ap (λ (z : ℕ). pushed z t) (h.is ∙ ap (λ (n : ℕ). pushed_all (pushed 0 symbol) n f) (let z : k ≡ max_children = (let m = h.few in omega arith) in z)))

-- what is cut off the tags to forget is lost in the key too
mask_same : (x m n : ℕ) → m % 2 ^ mask_width ≡ n % 2 ^ mask_width → masked x m ≡ masked x n
unfolding masked
mask_same x m n e = ap (λ (z : ℕ). x * 2 ^ mask_width + z) e

-- four places, one by one
four_at : (a b c d : ℕ) (f : ℕ → ℕ) → a ≡ f 0 → b ≡ f 1 → c ≡ f 2 → d ≡ f 3 → (k : ℕ) → k < max_children → get_or (a ∷ b ∷ c ∷ d ∷ []) k 0 ≡ f k
four_at a b c d f ea eb ec ed zero l = ea
four_at a b c d f ea eb ec ed (suc zero) l = eb
four_at a b c d f ea eb ec ed (suc (suc zero)) l = ec
four_at a b c d f ea eb ec ed (suc (suc (suc zero))) l = ed
four_at a b c d f ea eb ec ed (suc (suc (suc (suc k)))) l = absurd (omega arith)

pushed_all_same : (x n : ℕ) (f g : ℕ → ℕ) → ((k : ℕ) → k < n → f k ≡ g k) → pushed_all x n f ≡ pushed_all x n g
pushed_all_same x zero f g h = refl
pushed_all_same x (suc n) f g h = ap (λ (y : ℕ). pushed y (f n)) (pushed_all_same x n f g (λ k l. h k (omega arith))) ∙ ap (pushed (pushed_all x n g)) (h n (omega arith))

-- keys of the same symbol, places, target and tags to forget
pub key_same : (s s' t t' m m' : ℕ) (f g : ℕ → ℕ) → s ≡ s' → ((k : ℕ) → k < max_children → f k ≡ g k) → t ≡ t' → m % 2 ^ mask_width ≡ m' % 2 ^ mask_width → key_of s f t m ≡ key_of s' g t' m'
key_same s s' t t' m m' f g es ef et em =
    ap (λ (z : ℕ). key_of z f t m) es
    ∙ ap (λ (z : ℕ). masked (pushed z t) m) (pushed_all_same (pushed 0 s') max_children f g ef)
    ∙ ap (λ (z : ℕ). key_of s' g z m) et
    ∙ mask_same (digits_of s' g t') m m' em

-- a key made of four places, for those that they stand for
pub key_made : (s a b c d t t' m m' : ℕ) (f : ℕ → ℕ) → a ≡ f 0 → b ≡ f 1 → c ≡ f 2 → d ≡ f 3 → t ≡ t' → m % 2 ^ mask_width ≡ m' % 2 ^ mask_width → key_of s (λ k. get_or (a ∷ b ∷ c ∷ d ∷ []) k 0) t m ≡ key_of s f t' m'
key_made s a b c d t t' m m' f ea eb ec ed et em = key_same s s t t' m m' (λ k. get_or (a ∷ b ∷ c ∷ d ∷ []) k 0) f refl (four_at a b c d f ea eb ec ed) et em

-- a product of two 16-bit numbers
pub product_low : (p n : ℕ) → p < 65536 → n < 65536 → p * n ≤ 65535 * 65535
product_low p n l m = mul-le-mul {n₁ = p} {m₁ = n} {n₂ = 65535} {m₂ = 65535} (omega arith) (omega arith)
