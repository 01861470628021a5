-- The search for the first rule of a symbol: where bisection ends, and that in a sound set, where the rules' symbols never fall, it is that rule. Assumes nothing.
use mathlib.Core.Path.{◌≡◌, refl, sym, ap, ◌∙◌, subst}
use mathlib.Core.Bool.{Bool, true, false, ◌&&◌, ◌||◌}
use mathlib.Core.Logic.{⊎_elim}
use mathlib.Core.List.{List, ◌∷◌}
use Prim.Native.Nat.{ℕ, zero, suc, ◌+◌, ◌-◌, ◌≤◌, ◌<◌}
use native.Mathlib.Nat.{eq-or-lt_of_le, le_trans, le_refl, le_antisymm}
use native.Mathlib.Numerals.{add-one}
use native.Mathlib.Omega.{arith}
use borrow.Author.Rules.{rules}
use borrow.Author.Tests.{lt-ltb, le-ltb, ltb-true, ltb-false, eqb-true}
use lib.Dec.{T, eqb, ltb}
use lib.ListN.{length}
use Rattle.model.specs.Limits.{max_children}
use Rattle.model.specs.Lists.{tab}
use Rattle.model.specs.Automaton.{Rule, Automaton}
use Rattle.model.specs.Order.{lower?}
use Rattle.model.specs.Written.{rule_at}
use Rattle.automaton.specs.Stored.{rule_count, rule_word, decode}
use Rattle.automaton.specs.Check.{key_word, ascends_at, check_of}
use Rattle.automaton.specs.Window.{halfway, bisect, below?, rules_from, FirstFrom}
use Rattle.automaton.proofs.Parts.{below_or}
use Rattle.automaton.proofs.Decode.{rules_are, rule_known}
use Rattle.automaton.proofs.Passes.{Passes, passes}

-- bisection: its end and its two steps
module _ (p : ℕ → Bool) where
  bisect_end : (fuel low high : ℕ) → high ≤ low → bisect fuel p low high ≡ low
  unfolding bisect
  bisect_end zero low high h = refl
  bisect_end (suc fuel) low high h = rw (le-ltb low high h)

  module _ (fuel low high : ℕ) (l : low < high) where
    bisect_up : p (halfway low high) ≡ true → bisect (suc fuel) p low high ≡ bisect fuel p (halfway low high + 1) high
    unfolding bisect
    bisect_up h = rw (lt-ltb low high l, h)

    bisect_down : p (halfway low high) ≡ false → bisect (suc fuel) p low high ≡ bisect fuel p low (halfway low high)
    unfolding bisect
    bisect_down h = rw (lt-ltb low high l, h)

-- below n the test p has an edge between low and high: the index before low passes it, and high does not
record Between (p : ℕ → Bool) (n low high : ℕ) : Type 0 where
  inside : low ≤ high
  top : high ≤ n
  before : (j : ℕ) → j + 1 ≡ low → p j ≡ true
  here : high < n → p high ≡ false

module _ (p : ℕ → Bool) (n : ℕ) where
  ended : (fuel low high : ℕ) → high ≤ low → Between p n low high → Between p n (bisect fuel p low high) (bisect fuel p low high)
  ended fuel low high l b =
      let e : low ≡ high = le_antisymm b.inside l in
      rw (bisect_end p fuel low high l) (record {
        inside = le_refl low;
        top = rw e b.top;
        before = b.before;
        here = λ m. rw e (b.here (rw e at m));
      })

  -- one step, where the rest of them is known
  stepped : (fuel low high : ℕ) → ((l h : ℕ) → h ≤ l + fuel → Between p n l h → Between p n (bisect fuel p l h) (bisect fuel p l h)) → low < high → high ≤ low + suc fuel → Between p n low high → (t : Bool) → p (halfway low high) ≡ t → Between p n (bisect (suc fuel) p low high) (bisect (suc fuel) p low high)
  stepped fuel low high more l m b true e =
      let up = b.top in
      rw (bisect_up p fuel low high l e) (more (halfway low high + 1) high (omega arith) (record {
        inside = omega arith;
        top = b.top;
        before = λ j h. let k : j ≡ halfway low high = omega arith in rw k e;
        here = b.here;
      }))
  stepped fuel low high more l m b false e =
      let up = b.top in
      rw (bisect_down p fuel low high l e) (more low (halfway low high) (omega arith) (record {
        inside = omega arith;
        top = omega arith;
        before = b.before;
        here = λ k. e;
      }))

  bisect_between : (fuel low high : ℕ) → high ≤ low + fuel → Between p n low high → Between p n (bisect fuel p low high) (bisect fuel p low high)
  bisect_between zero low high m b = ended zero low high (omega arith) b
  bisect_between (suc fuel) low high m b =
      ⊎_elim (λ l. stepped fuel low high (bisect_between fuel) l m b (p (halfway low high)) refl) (λ l. ended (suc fuel) low high l b) (below_or low high)

-- Whatever the order of the rules: the rule before the end has a symbol below f, and the one there does not.
module _ (A : Automaton) (f : ℕ) where
  edge : Between (below? A f) (length A.rules) (rules_from A f) (rules_from A f)
  unfolding rules_from
  edge = bisect_between (below? A f) (length A.rules) (length A.rules) 0 (length A.rules) (omega arith) (record {
    inside = omega arith;
    top = le_refl (length A.rules);
    before = λ j h. absurd (omega arith);
    here = λ h. absurd (omega arith);
  })

  pub rules_from_within : rules_from A f ≤ length A.rules
  rules_from_within = edge.top

  pub rules_from_before : (j : ℕ) → j + 1 ≡ rules_from A f → (rule_at A j).symbol < f
  rules_from_before j h = ltb-true (rule_at A j).symbol f (edge.before j h)

  pub rules_from_here : rules_from A f < length A.rules → f ≤ (rule_at A (rules_from A f)).symbol
  rules_from_here h = ltb-false (rule_at A (rules_from A f)).symbol f (edge.here h)

pub lower_head : (x y : ℕ) (a b : List ℕ) → lower? (x ∷ a) (y ∷ b) ≡ true → x ≤ y
lower_head x y a b h = go (ltb x y) (eqb x y) refl refl h
  where
    go : (l e : Bool) → ltb x y ≡ l → eqb x y ≡ e → (l || e && lower? a b) ≡ true → x ≤ y
    go true e el ee g = let z = ltb-true x y el in omega arith
    go false true el ee g = let z = eqb-true x y ee in omega arith
    go false false el ee g = absurd (subst T (sym g) tt)

pub lower_first : (n : ℕ) (f g : ℕ → ℕ) → lower? (tab (suc n) f) (tab (suc n) g) ≡ true → f 0 ≤ g 0
lower_first n f g h = lower_head (f 0) (g 0) (tab n (λ k. f (suc k))) (tab n (λ k. g (suc k))) h

module _ (s : List ℕ) (p : Passes s) where
  next_symbol : (i : ℕ) → i + 1 < rule_count s → rule_word s i 0 ≤ rule_word s (i + 1) 0
  unfolding ascends_at key_word
  next_symbol i l = lower_first (max_children + 1) (key_word s i) (key_word s (i + 1)) (p.ascends i l)

  pub symbols_rise : (i j : ℕ) → i ≤ j → j < rule_count s → rule_word s i 0 ≤ rule_word s j 0
  symbols_rise i zero h l = let e : i ≡ 0 = omega arith in rw e (le_refl _)
  symbols_rise i (suc j) h l =
      ⊎_elim (λ e. rw e (le_refl _))
      (λ m. le_trans (symbols_rise i j (omega arith) (omega arith)) (rw add-one at (next_symbol j (omega arith))))
      (eq-or-lt_of_le h)

symbol_at : (s : List ℕ) (j : ℕ) → j < rule_count s → (rule_at (decode s) j).symbol ≡ rule_word s j 0
symbol_at s j l = ap (λ (r : Rule). r.symbol) (rule_known s j l)

-- In a sound set the end is the first rule whose symbol is f or higher, or the number of rules.
module _ (s : List ℕ) (f : ℕ) (h : check_of s ≡ 0) where
  symbols_up : (i j : ℕ) → i ≤ j → j < length (decode s).rules → (rule_at (decode s) i).symbol ≤ (rule_at (decode s) j).symbol
  symbols_up i j l m =
      let n = rules_are s in
      rw (symbol_at s i (omega arith), symbol_at s j (omega arith)) (symbols_rise s (passes s h) i j l (omega arith))

  pub rules_from_first : FirstFrom (decode s) f (rules_from (decode s) f)
  rules_from_first = let w = rules_from_within (decode s) f in record {
    within = w;
    before = λ j l.
        let r = rules_from (decode s) f in
        let x = rules_from_before (decode s) f (r - 1) (omega arith) in
        let y = symbols_up j (r - 1) (omega arith) (omega arith) in
        omega arith;
    after = λ j l m.
        let x = rules_from_here (decode s) f (omega arith) in
        let y = symbols_up (rules_from (decode s) f) j l m in
        omega arith;
  }

-- at the loop's head: bisection from here on ends where the whole one does
pub record Sought (s : List ℕ) (f low high : ℕ) : Type 0 where
  pub inside : low ≤ high
  pub top : high ≤ rule_count s
  pub fuel : ℕ
  pub enough : high ≤ low + fuel
  pub ends : bisect fuel (below? (decode s) f) low high ≡ rules_from (decode s) f

module _ (s : List ℕ) (f : ℕ) where
  pub sought_none : (n : ℕ) → n ≡ length (decode s).rules → Sought s f 0 n
  unfolding rules_from
  sought_none n e = let z = rules_are s in record {
    inside = omega arith;
    top = omega arith;
    fuel = n;
    enough = omega arith;
    ends = rw e;
  }

  module _ (low high x : ℕ) (w : Sought s f low high) (l : low < high) (e : x ≡ rule_word s (halfway low high) 0) where
    up : x < f → (fuel : ℕ) → high ≤ low + fuel → bisect fuel (below? (decode s) f) low high ≡ rules_from (decode s) f → Sought s f (halfway low high + 1) high
    up h zero m d = absurd (omega arith)
    up h (suc fuel) m d =
        let t = w.top in
        let b : below? (decode s) f (halfway low high) ≡ true = rw (symbol_at s (halfway low high) (omega arith), ← e) (lt-ltb x f h) in
        record {
          inside = omega arith;
          top = t;
          fuel = fuel;
          enough = omega arith;
          ends = sym (bisect_up (below? (decode s) f) fuel low high l b) ∙ d;
        }

    down : f ≤ x → (fuel : ℕ) → high ≤ low + fuel → bisect fuel (below? (decode s) f) low high ≡ rules_from (decode s) f → Sought s f low (halfway low high)
    down h zero m d = absurd (omega arith)
    down h (suc fuel) m d =
        let t = w.top in
        let b : below? (decode s) f (halfway low high) ≡ false = rw (symbol_at s (halfway low high) (omega arith), ← e) (le-ltb x f h) in
        record {
          inside = omega arith;
          top = omega arith;
          fuel = fuel;
          enough = omega arith;
          ends = sym (bisect_down (below? (decode s) f) fuel low high l b) ∙ d;
        }

    pub sought_low : x < f → Sought s f (halfway low high + 1) high
    sought_low h = up h w.fuel w.enough w.ends

    pub sought_high : f ≤ x → Sought s f low (halfway low high)
    sought_high h = down h w.fuel w.enough w.ends

  pub sought_end : (low high : ℕ) → Sought s f low high → high ≤ low → low ≡ rules_from (decode s) f
  sought_end low high w l = sym (bisect_end (below? (decode s) f) w.fuel low high l) ∙ w.ends

pub ruleset seeks = (sought_none, sought_low, sought_high, sought_end, rules)
