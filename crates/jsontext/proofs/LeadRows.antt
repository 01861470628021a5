-- The rows of UTF-8's table by lead byte: one computed test over every byte says that each is built of the byte's three numbers. Assumes nothing.
use mathlib.Core.Path.{◌≡◌, refl, sym, ap, ◌∙◌}
use mathlib.Core.Bool.{Bool, true, false, cond}
use mathlib.Core.List.{List, [], ◌∷◌}
use mathlib.Core.Option.{Option, none, some}
use Prim.Native.Nat.{ℕ, zero, suc, ◌+◌, ◌-◌, ◌<◌, ◌≤◌}
use native.Mathlib.Omega.{arith}
use lib.Dec.{eqb, ltb}
use lib.ListN.{length, get_or, replicate}
use Rattle.model.specs.Lists.{tab}
use Rattle.model.proofs.Tab.{tab_at}
use Rattle.base.specs.Text.{byte_at}
use Rattle.base.proofs.Bytes.{byte_inside, class_inside}
use Rattle.jsontext.specs.Utf8.{between, Stretch, up_to, broken_at, Sequence, tail, sequences, pass_at, sequence_in, sequence_at}
use Rattle.jsontext.specs.Lead.{follows, lowest, highest}
use Rattle.jsontext.proofs.Tested.{tested}

abbrev Row : Type 0
Row = Option (List (ℕ → Bool))

-- what the first of these rows that a byte begins asks of the bytes behind it; none where it begins none
abbrev row_of : List Sequence → ℕ → Row
row_of [] b = none
row_of (s ∷ ss) b = elim (s.lead b) [ true ↦ some s.more | false ↦ row_of ss b ]

-- the same, from how many follow and the bounds of the first
abbrev built : ℕ → ℕ → ℕ → Row
built zero lo hi = none
built (suc n) lo hi = some (between lo hi ∷ replicate n tail)

rows : tab 256 (row_of sequences) ≡ tab 256 (λ b. built (follows b) (lowest b) (highest b))
unfolding follows lowest highest
rows = refl

row_built : (b : ℕ) → b < 256 → row_of sequences b ≡ built (follows b) (lowest b) (highest b)
row_built b h =
    sym (tab_at none 256 (row_of sequences) b h) ∙ ap (λ (l : List Row). get_or l b none) rows ∙ tab_at none 256 (λ n. built (follows n) (lowest n) (highest n)) b h

abbrev pass_row : Row → List ℕ → ℕ → Stretch
pass_row none t i = broken_at i
pass_row (some ps) t i = pass_at ps t (i + 1)

by_row : (ss : List Sequence) (t : List ℕ) (i : ℕ) → sequence_in ss t i ≡ pass_row (row_of ss (byte_at t i)) t i
unfolding sequence_in
by_row [] t i = refl
by_row (s ∷ ss) t i = go (s.lead (byte_at t i)) (by_row ss t i)
  where
    go : (b : Bool) → sequence_in ss t i ≡ pass_row (row_of ss (byte_at t i)) t i
        → elim b [ true ↦ pass_at s.more t (i + 1) | false ↦ sequence_in ss t i ] ≡ pass_row (elim b [ true ↦ some s.more | false ↦ row_of ss (byte_at t i) ]) t i
    go true r = refl
    go false r = r

-- how many bytes a character has, by its first
unfoldable pub size_by : ℕ → ℕ
size_by b = cond (ltb b 128) 1 (cond (ltb b 224) 2 (cond (ltb b 240) 3 4))

pub size_bounds : (b : ℕ) → (0 < size_by b) × (size_by b ≤ 4)
unfolding size_by
size_bounds b = go (ltb b 128) (ltb b 224) (ltb b 240)
  where
    go : (x y z : Bool) → (0 < cond x 1 (cond y 2 (cond z 3 4))) × (cond x 1 (cond y 2 (cond z 3 4)) ≤ 4)
    go true y z = (omega arith, omega arith)
    go false true z = (omega arith, omega arith)
    go false false true = (omega arith, omega arith)
    go false false false = (omega arith, omega arith)

-- a row has as many
abbrev row_size : Row → ℕ → ℕ
row_size none b = size_by b
row_size (some ps) b = suc (length ps)

sizes : tab 256 (λ b. row_size (row_of sequences b) b) ≡ tab 256 size_by
unfolding size_by
sizes = refl

pass_size : (ps : List (ℕ → Bool)) (t : List ℕ) (i n : ℕ) → pass_at ps t i ≡ up_to n → n ≡ i + length ps
unfolding pass_at
pass_size [] t i n e = let z : i ≡ n = cc in omega arith
pass_size (p ∷ ps) t i n e = go (pass_size ps t (i + 1) n) (p (byte_at t i)) e
  where
    go : (pass_at ps t (i + 1) ≡ up_to n → n ≡ i + 1 + length ps) → (b : Bool) → elim b [ true ↦ pass_at ps t (i + 1) | false ↦ broken_at i ] ≡ up_to n → n ≡ i + suc (length ps)
    go r true q = let k = r q in omega arith
    go r false q = let z : ◌≡◌ {A = ℕ} 0 1 = cc in absurd (omega arith)

pub sequence_size : (t : List ℕ) (i n : ℕ) → byte_at t i < 256 → sequence_at t i ≡ up_to n → n ≡ i + size_by (byte_at t i)
unfolding sequence_at
sequence_size t i n h e =
    let known : row_size (row_of sequences (byte_at t i)) (byte_at t i) ≡ size_by (byte_at t i) =
    sym (tab_at 0 256 (λ b. row_size (row_of sequences b) b) (byte_at t i) h) ∙ ap (λ (l : List ℕ). get_or l (byte_at t i) 0) sizes ∙ tab_at 0 256 size_by (byte_at t i) h in
    go (row_of sequences (byte_at t i)) known (sym (by_row sequences t i) ∙ e)
  where
    go : (r : Row) → row_size r (byte_at t i) ≡ size_by (byte_at t i) → pass_row r t i ≡ up_to n → n ≡ i + size_by (byte_at t i)
    go none k q = let z : ◌≡◌ {A = ℕ} 0 1 = cc in absurd (omega arith)
    go (some ps) k q = let r = pass_size ps t (i + 1) n q in omega arith

-- 0 is below the bounds
lowest_rejects : (b h : ℕ) → between (lowest b) h 0 ≡ false
unfolding lowest
lowest_rejects b h = go (eqb b 224) (eqb b 240)
  where
    go : (x y : Bool) → between (cond x 160 (cond y 144 128)) h 0 ≡ false
    go true y = refl
    go false true = refl
    go false false = refl

-- the lead byte b at i, its numbers n, lo and hi, and what stands behind it
module _ (t : List ℕ) (i b n lo hi : ℕ) (here : b ≡ byte_at t i) (byte : b < 256) (count : n ≡ follows b) (low : lo ≡ lowest b) (high : hi ≡ highest b) where
  by_numbers : pass_row (built n lo hi) t i ≡ sequence_at t i
  unfolding sequence_at
  by_numbers =
      let same : built n lo hi ≡ row_of sequences (byte_at t i) = rw (count, low, high, ← here) (sym (row_built b byte)) in
      ap (λ (r : Row). pass_row r t i) same ∙ sym (by_row sequences t i)

  -- the byte x behind it, and whether it is within the bounds
  module _ (x : ℕ) (w : Bool) (some : n ≡ 0 → ⊥) (behind : x ≡ byte_at t (i + 1)) (test : w ≡ between lo hi x) where
    pub lead_bad : w ≡ false → broken_at (i + 1) ≡ sequence_at t i
    unfolding pass_at
    lead_bad g = go n some by_numbers
      where
        go : (m : ℕ) → (m ≡ 0 → ⊥) → pass_row (built m lo hi) t i ≡ sequence_at t i → broken_at (i + 1) ≡ sequence_at t i
        go zero f e = absurd (f refl)
        go (suc m) f e = rw (pass_at, tested (between lo hi) behind test g) at e

    pub lead_more : w ≡ true → pass_at (replicate (n - 1) tail) t (i + 2) ≡ sequence_at t i
    unfolding pass_at
    lead_more g = go n some by_numbers
      where
        go : (m : ℕ) → (m ≡ 0 → ⊥) → pass_row (built m lo hi) t i ≡ sequence_at t i → pass_at (replicate (m - 1) tail) t (i + 2) ≡ sequence_at t i
        go zero f e = absurd (f refl)
        go (suc m) f e =
            let y : pass_at (replicate m tail) t (i + 1 + 1) ≡ sequence_at t i = rw (pass_at, tested (between lo hi) behind test g) at e in
            let z : suc m - 1 ≡ m = omega arith in
            let u : i + 1 + 1 ≡ i + 2 = omega arith in
            rw z (rw u at y)

    pub second_inside : w ≡ true → i + 1 < length t
    second_inside g = class_inside (between lo hi) zero_fails t (i + 1) (tested (between lo hi) behind test g)
      where
        zero_fails : between lo hi 0 ≡ false
        zero_fails = rw low (lowest_rejects b hi)

pub lead_none : (t : List ℕ) (i b n : ℕ) → b ≡ byte_at t i → b < 256 → n ≡ follows b → n ≡ 0 → broken_at i ≡ sequence_at t i
lead_none t i b n e h f z = by_numbers t i b 0 (lowest b) (highest b) e h (sym z ∙ f) refl refl

-- a lead byte stands inside
lead_above : (b : ℕ) → (follows b ≡ 0 → ⊥) → 0 < b
unfolding follows
lead_above zero g = absurd (g refl)
lead_above (suc b) g = omega arith

pub lead_inside : (t : List ℕ) (i b n : ℕ) → b ≡ byte_at t i → n ≡ follows b → (n ≡ 0 → ⊥) → i < length t
lead_inside t i b n e f g = byte_inside t i b e (lead_above b (λ z. g (f ∙ z)))

-- the loop over the tails: so many left
module _ (t : List ℕ) (i : ℕ) where
  pub tails_none : (n : ℕ) → n ≤ 0 → up_to i ≡ pass_at (replicate n tail) t i
  unfolding pass_at
  tails_none zero h = refl
  tails_none (suc n) h = absurd (omega arith)

  pub tails_stop : (n : ℕ) → 0 < n → between 128 191 (byte_at t i) ≡ false → broken_at i ≡ pass_at (replicate n tail) t i
  unfolding pass_at
  tails_stop zero h e = absurd (omega arith)
  tails_stop (suc n) h e = rw (pass_at, e)

  pub tails_more : (n : ℕ) → 0 < n → between 128 191 (byte_at t i) ≡ true → pass_at (replicate (n - 1) tail) t (i + 1) ≡ pass_at (replicate n tail) t i
  unfolding pass_at
  tails_more zero h e = absurd (omega arith)
  tails_more (suc n) h e = let z : suc n - 1 ≡ n = omega arith in rw (pass_at, e) (ap (λ (m : ℕ). pass_at (replicate m tail) t (i + 1)) z)

pub tail_inside : (t : List ℕ) (i : ℕ) → between 128 191 (byte_at t i) ≡ true → i < length t
tail_inside t i e = class_inside (between 128 191) refl t i e
