-- Cells of a table: how one is written and read, and what a filled table holds. Assumes nothing.
use mathlib.Core.Path.{◌≡◌, refl, sym, ap, subst, ◌∙◌}
use mathlib.Core.Logic.{◌⊎◌, inl, inr}
use mathlib.Core.List.{List, [], ◌∷◌, ◌++◌, append_assoc}
use Prim.Native.Nat.{ℕ, zero, suc, ◌+◌, ◌-◌, ◌*◌, ◌/◌, ◌%◌, ◌<◌, ◌≤◌, min}
use native.Mathlib.Nat.{eq-or-lt_of_le, le_of_suc-le-suc, le_antisymm, not-suc-le-zero}
use native.Mathlib.Numerals.{add-one}
use native.Mathlib.Omega.{arith}
use borrow.Author.Rules.{rules}
use borrow.Author.Tests.{lt-ltb, le-ltb}
use lib.ListN.{length, get_or, take, drop, set, length-append, length-take, length-drop, length-set}
use lib.Seq.{take-suc-set, drop-set-lt, append_snoc, length-take-le, take-nil, drop-nil, take-take, get_or-take, get_or_at, drop_at, take_at}
use Rattle.model.specs.Limits.{max_symbols}
use Rattle.model.specs.Space.{put_at}
use Rattle.model.proofs.Space.{put_not, put_fits, put_length, put_before}
use Rattle.names.specs.Places.{Starts}
use Rattle.names.specs.Names.{max_name, unless_empty, name_of, digits, default_name, shown_name}
use Rattle.names.specs.Table.{cell_bytes, cell_of, name_in, with_names, table_of}
use Rattle.names.proofs.Scan.{drop_inside, starts_first, some_first, none_first}

take_inside : (k : ℕ) (l : List ℕ) → take (min k (length l)) l ≡ take k l
take_inside zero l = let e : min 0 (length l) ≡ 0 = omega arith in ap (λ n. take n l) e
take_inside (suc k) [] = let e : min (suc k) 0 ≡ 0 = omega arith in ap (λ n. take n []) e
take_inside (suc k) (x ∷ l) =
    let e : min (suc k) (suc (length l)) ≡ suc (min k (length l)) = omega arith in
    ap (λ n. take n (x ∷ l)) e ∙ ap (λ r. x ∷ r) (take_inside k l)

-- a part with both ends kept inside the list
pub clipped : (m n : ℕ) (t : List ℕ) (a e : ℕ) → a ≡ min m (length t) → e ≡ min (m + n) (length t) → take (e - a) (drop a t) ≡ take n (drop m t)
clipped m n t a e p q =
    let l = length-drop m t in
    let k : e - a ≡ min n (length (drop m t)) = omega arith in
    ap (λ j. take (e - a) (drop j t)) p ∙ ap (take (e - a)) (drop_inside t m) ∙ ap (λ j. take j (drop m t)) k ∙ take_inside n (drop m t)

-- a byte, then the rest behind it
put_cons : (t : List ℕ) (at x : ℕ) (l : List ℕ) → at + length l < length t → put_at (set t at x) (at + 1) l ≡ put_at t at (x ∷ l)
put_cons t at x l h =
    let s = length-set t at x in
    let inside : at < length t = omega arith in
    let behind : at < at + 1 + length l = omega arith in
    let same : at + 1 + length l ≡ at + suc (length l) = omega arith in
    put_fits (set t at x) (at + 1) l (omega arith)
    ∙ ap (λ r. r ++ l ++ drop (at + 1 + length l) (set t at x)) (ap (λ n. take n (set t at x)) (add-one at) ∙ take-suc-set t at x inside)
    ∙ ap (λ r. r ++ drop (at + 1 + length l) (set t at x)) (append_snoc (take at t) x l)
    ∙ ap (λ r. take at t ++ x ∷ l ++ r) (drop-set-lt (at + 1 + length l) t at x behind ∙ ap (λ n. drop n t) same)
    ∙ sym (put_fits t at (x ∷ l) (omega arith))

module _ (t : List ℕ) (at n : ℕ) (name : List ℕ) (is : n ≡ min max_name (length name)) where
  short : length (take max_name name) ≡ n
  short = length-take max_name name ∙ sym is

  pub cell_put : (t' : List ℕ) → at + n < length t → t' ≡ put_at (set t at n) (at + 1) (take n name) → t' ≡ put_at t at (cell_of name)
  cell_put t' h e =
      let k : at + length (take max_name name) < length t = rw short h in
      e ∙ ap (put_at (set t at n) (at + 1)) (ap (λ j. take j name) is ∙ take_inside max_name name)
      ∙ ap (λ j. put_at (set t at j) (at + 1) (take max_name name)) (sym short) ∙ put_cons t at (length (take max_name name)) (take max_name name) k

  pub cell_too_long : length t ≤ at + n → t ≡ put_at t at (cell_of name)
  cell_too_long h = let e = short in sym (put_not t at (cell_of name) (omega arith))

pub one_digit : (i : ℕ) → i < 10 → default_name i ≡ 115 ∷ (48 + i % 10) ∷ []
unfolding default_name digits
one_digit i h = let e : i ≡ i % 10 = omega arith in rw (digits, lt-ltb _ _ h) (ap (λ n. 115 ∷ (48 + n) ∷ []) e)

pub two_digits : (i : ℕ) → 10 ≤ i → i < 100 → default_name i ≡ 115 ∷ (48 + (i / 10) % 10) ∷ (48 + i % 10) ∷ []
unfolding default_name digits
two_digits zero l h = absurd (omega arith)
two_digits (suc i) l h =
    let q : suc i / 10 < 10 = omega arith in
    let e : suc i / 10 ≡ (suc i / 10) % 10 = omega arith in
    rw (digits, le-ltb _ _ l, digits, lt-ltb _ _ q) (ap (λ n. 115 ∷ (48 + n) ∷ (48 + suc i % 10) ∷ []) e)

-- the part in its cell, or `s` and the number
module _ (t t' part : List ℕ) (at i : ℕ) where
  pub part_put : 0 < length part → t' ≡ put_at t at (cell_of part) → t' ≡ put_at t at (cell_of (unless_empty part (default_name i)))
  part_put h e = e ∙ ap (λ l. put_at t at (cell_of l)) (some_first part (default_name i) h)

  pub number_put : (l : List ℕ) → length part ≤ 0 → default_name i ≡ l → t' ≡ put_at t at (cell_of l) → t' ≡ put_at t at (cell_of (unless_empty part (default_name i)))
  number_put l h n e = e ∙ ap (λ l'. put_at t at (cell_of l')) (sym n ∙ none_first part (default_name i) (omega arith))

-- the loop that fills a table, at its head: i cells are written, and the next lines start at a and b
pub record Filled (site built_in t₀ : List ℕ) (i a b : ℕ) (t : List ℕ) : Type 0 where
  pub few : i ≤ max_symbols
  pub long : length t ≡ length t₀
  pub in_site : Starts site i a
  pub in_built : Starts built_in i b
  pub is : t ≡ with_names i site built_in t₀

module _ (site built_in t₀ : List ℕ) where
  pub filled_none : Filled site built_in t₀ 0 0 0 t₀
  unfolding with_names
  filled_none = record { few = omega arith; long = refl; in_site = starts_first site; in_built = starts_first built_in; is = refl }

  module _ (i a b : ℕ) (t : List ℕ) (v : Filled site built_in t₀ i a b t) where
    pub filled_more : (a' b' : ℕ) (t' part : List ℕ) → i < max_symbols → length t' ≡ length t → part ≡ name_of site built_in i
        → t' ≡ put_at t (i * cell_bytes) (cell_of (unless_empty part (default_name i))) → Starts site (i + 1) a' → Starts built_in (i + 1) b'
        → Filled site built_in t₀ (i + 1) a' b' t'
    unfolding with_names shown_name
    filled_more a' b' t' part h l p e s s' = record {
      few = omega arith;
      long = l ∙ v.long;
      in_site = s;
      in_built = s';
      is =
          e ∙ ap (λ w. put_at t (i * cell_bytes) (cell_of (unless_empty w (default_name i)))) p
          ∙ ap (λ w. put_at w (i * cell_bytes) (cell_of (shown_name site built_in i))) v.is ∙ ap (λ n. with_names n site built_in t₀) (sym (add-one i));
    }

    pub filled_all : max_symbols ≤ i → t ≡ table_of site built_in t₀
    filled_all h = v.is ∙ ap (λ n. with_names n site built_in t₀) (le_antisymm v.few h)

drop_take : (m n : ℕ) (l : List ℕ) → drop m (take n l) ≡ take (n - m) (drop m l)
drop_take zero n l = let e : n ≡ n - 0 = omega arith in ap (λ k. take k l) e
drop_take (suc m) zero l = let e : 0 ≡ 0 - suc m = omega arith in ap (λ k. take k (drop (suc m) l)) e
drop_take (suc m) (suc n) [] = drop-nil (suc m) ∙ sym (take-nil (suc n - suc m))
drop_take (suc m) (suc n) (x ∷ l) = let e : n - m ≡ suc n - suc m = omega arith in drop_take m n l ∙ ap (λ k. take k (drop m l)) e

-- what stands before the bytes that are put stays
module _ (d : List ℕ) (at : ℕ) (c : List ℕ) (fits : at + length c ≤ length d) where
  get_d_before : (j : ℕ) → j < at → get_or (put_at d at c) j 0 ≡ get_or d j 0
  get_d_before j h = sym (get_or-take at (put_at d at c) j 0 h) ∙ ap (λ l. get_or l j 0) (put_before d at c fits) ∙ get_or-take at d j 0 h

  part_before : (m k : ℕ) → m + k ≤ at → take k (drop m (put_at d at c)) ≡ take k (drop m d)
  part_before m k h = sym (within (put_at d at c)) ∙ ap (λ l. take k (drop m l)) (put_before d at c fits) ∙ within d
    where
      within : (l : List ℕ) → take k (drop m (take at l)) ≡ take k (drop m l)
      within l = let e : k ≤ at - m = omega arith in ap (take k) (drop_take m at l) ∙ take-take k (at - m) (drop m l) e

-- a cell holds what was put there
module _ (d : List ℕ) (at : ℕ) (l : List ℕ) (fits : at + suc (length l) ≤ length d) where
  front : length (take at d) ≡ at
  front = length-take-le at d (omega arith)

  cell_is : put_at d at (length l ∷ l) ≡ take at d ++ length l ∷ (l ++ drop (at + suc (length l)) d)
  cell_is = put_fits d at (length l ∷ l) fits ∙ append_assoc (take at d) (length l ∷ l) (drop (at + suc (length l)) d)

  cell_length : get_or (put_at d at (length l ∷ l)) at 0 ≡ length l
  cell_length = ap (λ r. get_or r at 0) cell_is ∙ get_or_at (take at d) (length l) _ 0 at front

  cell_name : take (length l) (drop (at + 1) (put_at d at (length l ∷ l))) ≡ l
  cell_name =
      let e : length (take at d ++ length l ∷ []) ≡ at + 1 = length-append (take at d) (length l ∷ []) ∙ ap (λ n. n + 1) front in
      ap (λ r. take (length l) (drop (at + 1) r)) (cell_is ∙ sym (append_assoc (take at d) (length l ∷ []) (l ++ drop (at + suc (length l)) d)))
      ∙ ap (take (length l)) (drop_at (take at d ++ length l ∷ []) (l ++ drop (at + suc (length l)) d) (at + 1) e)
      ∙ take_at l (drop (at + suc (length l)) d) (length l) refl

-- The cells of a table hold the names shown, as far as a name may go.
module _ (site built_in t : List ℕ) where
  short_cell : (i : ℕ) → length (take max_name (shown_name site built_in i)) ≤ max_name
  short_cell i = rw length-take (omega arith)

  length_names : (n : ℕ) → n * cell_bytes ≤ length t → length (with_names n site built_in t) ≡ length t
  unfolding with_names
  length_names zero h = refl
  length_names (suc n) h =
      let e = length_names n (omega arith) in
      let s = short_cell n in
      put_length (with_names n site built_in t) (n * cell_bytes) (cell_of (shown_name site built_in n)) (omega arith) ∙ e

  pub record Holds (n i : ℕ) : Type 0 where
    pub byte : get_or (with_names n site built_in t) (i * cell_bytes) 0 ≡ length (take max_name (shown_name site built_in i))
    pub name : name_in (with_names n site built_in t) i ≡ take max_name (shown_name site built_in i)

  holds_more : (n i : ℕ) → suc n * cell_bytes ≤ length t → (i < n → Holds n i) → (i ≡ n) ⊎ (i < n) → Holds (suc n) i
  unfolding with_names name_in
  holds_more n i h below (inl e) =
      let s = short_cell n in
      let l = length_names n (omega arith) in
      let name = take max_name (shown_name site built_in n) in
      let fits : n * cell_bytes + suc (length name) ≤ length (with_names n site built_in t) = omega arith in
      let b = cell_length (with_names n site built_in t) (n * cell_bytes) name fits in
      subst (Holds (suc n)) (sym e) (record {
        byte = b;
        name = ap (λ k. take k (drop (n * cell_bytes + 1) (with_names (suc n) site built_in t))) b ∙ cell_name (with_names n site built_in t) (n * cell_bytes) name fits;
      })
  holds_more n i h below (inr k) =
      let s = short_cell n in
      let s' = short_cell i in
      let l = length_names n (omega arith) in
      let v = below k in
      let fits : n * cell_bytes + suc (length (take max_name (shown_name site built_in n))) ≤ length (with_names n site built_in t) = omega arith in
      let cell = cell_of (shown_name site built_in n) in
      let b = get_d_before (with_names n site built_in t) (n * cell_bytes) cell fits (i * cell_bytes) (omega arith) in
      record {
        byte = b ∙ v.byte;
        name =
            ap (λ j. take j (drop (i * cell_bytes + 1) (with_names (suc n) site built_in t))) b
            ∙ part_before (with_names n site built_in t) (n * cell_bytes) cell fits (i * cell_bytes + 1) (get_or (with_names n site built_in t) (i * cell_bytes) 0) (omega (arith, v.byte))
            ∙ v.name;
      }

  pub holds : (n i : ℕ) → n * cell_bytes ≤ length t → i < n → Holds n i
  holds zero i h l = absurd (not-suc-le-zero l)
  holds (suc n) i h l = holds_more n i h (λ k. holds n i (omega arith) k) (eq-or-lt_of_le (le_of_suc-le-suc l))

pub ruleset cells = (part_put, number_put, filled_none, filled_more, filled_all, rules)
