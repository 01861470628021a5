-- The hash of a row, cell by cell, with the runs of zero bytes that only multiply, and the published values of the hash. Assumes nothing.
use mathlib.Core.Path.{◌≡◌, refl, sym, ap, ◌∙◌}
use mathlib.Core.List.{List, [], ◌∷◌, ◌++◌}
use Prim.Native.Nat.{ℕ, zero, suc, ◌+◌, ◌*◌, ◌/◌, ◌%◌, ◌^◌, ◌<◌, ◌≤◌, zero-le}
use native.Mathlib.Nat.{mul_comm, mul_assoc, add-mul, pow-succ', mod-lt, mod-add-div, add-mul-mod_self_left}
use native.Mathlib.Omega.{arith}
use lib.Bits.{xor_zero_r}
use lib.Pow.{field, mod-mod-pow}
use native.Mathlib.Numerals.{add-one, add-one-le}
use lib.ListN.{length, get_or, drop, replicate, drop_of_length-le}
use lib.Seq.{drop-cons}
use Rattle.document.specs.Rows.{split_cells, encode_row}
use Rattle.document.specs.Words.{words_cells}
use Rattle.document.specs.Hash.{fnv_cell, fnv_from, fnv1a, cell_bytes, row_hash}

-- some cells, then others
pub cells_append : (h : ℕ) (xs ys : List ℕ) → fnv_from h (cell_bytes (xs ++ ys)) ≡ fnv_from (fnv_from h (cell_bytes xs)) (cell_bytes ys)
unfolding fnv_from
cells_append h [] ys = refl
cells_append h (x ∷ xs) ys = cells_append (fnv_cell h x) xs ys

one_cell : (h x : ℕ) → fnv_from h (cell_bytes (x ∷ [])) ≡ fnv_cell h x
unfolding fnv_from
one_cell h x = refl

pair_hashed : (h x y : ℕ) → fnv_from h (cell_bytes (x ∷ y ∷ [])) ≡ fnv_cell (fnv_cell h x) y
unfolding fnv_from
pair_hashed h x y = refl

-- ---- zero bytes

mod_times : (x y m : ℕ) → x % m * y % m ≡ x * y % m
mod_times x y m =
    let e : x * y ≡ x % m * y + m * (x / m * y) = ap (λ t. t * y) (sym (mod-add-div x m)) ∙ add-mul (x % m) (m * (x / m)) y ∙ ap (λ t. x % m * y + t) (mul_assoc m (x / m) y) in
    sym (ap (λ t. t % m) e ∙ add-mul-mod_self_left (x % m * y) m (x / m * y))

-- n zero bytes multiply n times
pub zeros : (n h : ℕ) → h < 2 ^ 32 → fnv_from h (replicate n 0) ≡ h * 16777619 ^ n % 2 ^ 32
unfolding fnv_from
zeros zero h l = omega arith
zeros (suc n) h l =
    ap (λ t. fnv_from (t * 16777619 % 2 ^ 32) (replicate n 0)) (xor_zero_r h)
    ∙ zeros n (h * 16777619 % 2 ^ 32) (mod-lt (h * 16777619) {m = 2 ^ 32} (omega arith))
    ∙ mod_times (h * 16777619) (16777619 ^ n) (2 ^ 32)
    ∙ ap (λ t. t % 2 ^ 32) (mul_assoc h 16777619 (16777619 ^ n) ∙ ap (λ t. h * t) (sym (pow-succ' 16777619 n)))

-- at once, by what they multiply by
pub zeros_at_once : (n factor h : ℕ) → factor ≡ 16777619 ^ n % 2 ^ 32 → h < 2 ^ 32 → fnv_from h (replicate n 0) ≡ h * factor % 2 ^ 32
zeros_at_once n factor h e l =
    zeros n h l
    ∙ ap (λ t. t % 2 ^ 32) (mul_comm h (16777619 ^ n))
    ∙ sym (mod_times (16777619 ^ n) h (2 ^ 32))
    ∙ ap (λ t. t % 2 ^ 32) (mul_comm (16777619 ^ n % 2 ^ 32) h ∙ ap (λ t. h * t) (sym e))

-- ---- the words of a row

pub two_hashed : (h x a b g r : ℕ) → a ≡ x % 65536 → g ≡ fnv_cell h a → b ≡ x / 65536 % 65536 → r ≡ fnv_cell g b → r ≡ fnv_from h (cell_bytes (split_cells 2 x))
two_hashed h x a b g r ea eg eb er = er ∙ ap (λ t. fnv_cell t b) (eg ∙ ap (fnv_cell h) ea) ∙ ap (fnv_cell (fnv_cell h (x % 65536))) eb ∙ sym (pair_hashed h (x % 65536) (x / 65536 % 65536))

pub front_hashed : (a x y s t r : ℕ) → x ≡ a % 65536 → s ≡ fnv_cell 2166136261 x → t ≡ fnv_from s (cell_bytes (split_cells 2 (a / 65536))) → y ≡ a / 281474976710656 % 65536 → r ≡ fnv_cell t y → r ≡ fnv1a (cell_bytes (split_cells 4 a))
front_hashed a x y s t r ex es et ey er =
    let q : a / 281474976710656 ≡ a / 65536 / 65536 / 65536 = omega arith in
    er
    ∙ ap (fnv_cell t) (ey ∙ ap (λ k. k % 65536) q)
    ∙ ap (λ k. fnv_cell k (a / 65536 / 65536 / 65536 % 65536)) (et ∙ ap (λ k. fnv_from k (cell_bytes (split_cells 2 (a / 65536)))) (es ∙ ap (fnv_cell 2166136261) ex ∙ sym (one_cell 2166136261 (a % 65536))) ∙ sym (cells_append 2166136261 (a % 65536 ∷ []) (split_cells 2 (a / 65536))))
    ∙ sym (one_cell (fnv1a (cell_bytes (a % 65536 ∷ split_cells 2 (a / 65536)))) (a / 65536 / 65536 / 65536 % 65536))
    ∙ sym (cells_append 2166136261 (a % 65536 ∷ split_cells 2 (a / 65536)) (a / 65536 / 65536 / 65536 % 65536 ∷ []))

-- a place and the kind behind the front
pub middle_hashed : (a m f x y g r : ℕ) → f ≡ fnv1a (cell_bytes (split_cells 4 a)) → x ≡ m % 65536 → g ≡ fnv_cell f x → y ≡ m / 65536 % 65536 → r ≡ fnv_cell g y → r ≡ fnv1a (cell_bytes (split_cells 4 a ++ split_cells 2 m))
middle_hashed a m f x y g r ef ex eg ey er =
    two_hashed f m x y g r ex eg ey er
    ∙ ap (λ k. fnv_from k (cell_bytes (split_cells 2 m))) ef
    ∙ sym (cells_append 2166136261 (split_cells 4 a) (split_cells 2 m))

-- the first six cells of leaves of symbol 6, counts and rates, and of symbol 7, names, whose hash is kept
pub count_middle : 1358246713 ≡ fnv1a (cell_bytes (split_cells 4 18446744073709486086 ++ split_cells 2 196607))
unfolding fnv_from
count_middle = refl

pub rate_middle : 720550096 ≡ fnv1a (cell_bytes (split_cells 4 18446744073709486086 ++ split_cells 2 262143))
unfolding fnv_from
rate_middle = refl

pub name_middle : 834638206 ≡ fnv1a (cell_bytes (split_cells 4 18446744073709486087 ++ split_cells 2 327679))
unfolding fnv_from
name_middle = refl

-- the payload: both halves, or only zeros behind the first cells
module _ (h x c : ℕ) where
  pub both_hashed : (g r : ℕ) → g ≡ fnv_from h (cell_bytes (split_cells 2 x)) → r ≡ fnv_from g (cell_bytes (split_cells 2 c)) → r ≡ fnv_from h (cell_bytes (split_cells 2 x ++ split_cells 2 c))
  both_hashed g r eg er = er ∙ ap (λ k. fnv_from k (cell_bytes (split_cells 2 c))) eg ∙ sym (cells_append h (split_cells 2 x) (split_cells 2 c))

  module _ (z : c ≡ 0) (r : ℕ) where
    pub no_payload : h < 2 ^ 32 → x ≡ 0 → r ≡ h * 1566662433 % 2 ^ 32 → r ≡ fnv_from h (cell_bytes (split_cells 2 x ++ split_cells 2 c))
    no_payload l e er =
        let cells : split_cells 2 x ++ split_cells 2 c ≡ replicate 4 0 = rw (e, z) in
        er ∙ sym (zeros_at_once 8 1566662433 h refl l) ∙ ap (λ k. fnv_from h (cell_bytes k)) (sym cells)

    pub one_payload : (y g : ℕ) → y ≡ x % 65536 → g ≡ fnv_cell h y → g < 2 ^ 32 → x < 65536 → r ≡ g * 4233492473 % 2 ^ 32 → r ≡ fnv_from h (cell_bytes (split_cells 2 x ++ split_cells 2 c))
    one_payload y g ey eg l m er =
        let q : x / 65536 ≡ 0 = omega arith in
        let cells : split_cells 2 x ++ split_cells 2 c ≡ x % 65536 ∷ replicate 3 0 = rw (q, z) in
        er
        ∙ sym (zeros_at_once 6 4233492473 g refl l)
        ∙ ap (λ k. fnv_from k (replicate 6 0)) (eg ∙ ap (fnv_cell h) ey ∙ sym (one_cell h (x % 65536)))
        ∙ sym (cells_append h (x % 65536 ∷ []) (replicate 3 0))
        ∙ ap (λ k. fnv_from h (cell_bytes k)) (sym cells)

    pub half_payload : (g : ℕ) → g ≡ fnv_from h (cell_bytes (split_cells 2 x)) → g < 2 ^ 32 → r ≡ g * 1345077009 % 2 ^ 32 → r ≡ fnv_from h (cell_bytes (split_cells 2 x ++ split_cells 2 c))
    half_payload g eg l er =
        let cells : split_cells 2 c ≡ replicate 2 0 = rw z in
        both_hashed g r eg (er ∙ sym (zeros_at_once 4 1345077009 g refl l) ∙ ap (λ k. fnv_from g (cell_bytes k)) (sym cells))

-- the words of a row
pub words_hashed : (a b c f r : ℕ) → f ≡ fnv1a (cell_bytes (split_cells 4 a ++ split_cells 2 (b % 4294967296))) → r ≡ fnv_from f (cell_bytes (split_cells 2 (b / 4294967296) ++ split_cells 2 c)) → r ≡ row_hash (words_cells a b c)
words_hashed a b c f r e q =
    let x : b % 4294967296 % 65536 ≡ b % 65536 = omega arith in
    let y : b % 4294967296 / 65536 % 65536 ≡ b / 65536 % 65536 = ap (λ t. t % 65536) (field b 16 16) ∙ mod-mod-pow (b / 65536) 0 16 in
    let u : b / 4294967296 ≡ b / 65536 / 65536 = omega arith in
    let cells : (split_cells 4 a ++ split_cells 2 (b % 4294967296)) ++ (split_cells 2 (b / 4294967296) ++ split_cells 2 c) ≡ words_cells a b c = rw (x, y, u) in
    q
    ∙ ap (λ t. fnv_from t (cell_bytes (split_cells 2 (b / 4294967296) ++ split_cells 2 c))) e
    ∙ sym (cells_append 2166136261 (split_cells 4 a ++ split_cells 2 (b % 4294967296)) (split_cells 2 (b / 4294967296) ++ split_cells 2 c))
    ∙ ap row_hash cells

-- five cells one by one, and nothing but zeros
module _ (s x y z u f g h i j : ℕ) (ef : f ≡ fnv_cell 2166136261 s) (eg : g ≡ fnv_cell f x) (eh : h ≡ fnv_cell g y) (ei : i ≡ fnv_cell h z) (ej : j ≡ fnv_cell i u) where
  five_hashed : j ≡ fnv1a (cell_bytes (s ∷ x ∷ y ∷ z ∷ u ∷ []))
  unfolding fnv_from
  five_hashed = ej ∙ ap (λ k. fnv_cell k u) (ei ∙ ap (λ k. fnv_cell k z) (eh ∙ ap (λ k. fnv_cell k y) (eg ∙ ap (λ k. fnv_cell k x) ef)))

  pub node_hashed : (r : ℕ) → j < 2 ^ 32 → r ≡ j * 1485291145 % 2 ^ 32 → r ≡ row_hash (s ∷ x ∷ y ∷ z ∷ u ∷ replicate 5 0)
  node_hashed r l e = e ∙ sym (zeros_at_once 10 1485291145 j refl l) ∙ ap (λ k. fnv_from k (replicate 10 0)) five_hashed ∙ sym (cells_append 2166136261 (s ∷ x ∷ y ∷ z ∷ u ∷ []) (replicate 5 0))

-- after i cells the hash is h
pub record Hashed (cells : List ℕ) (h i : ℕ) : Type 0 where
  pub inside : i ≤ length cells
  pub rest : fnv_from h (cell_bytes (drop i cells)) ≡ row_hash cells

module _ (cells : List ℕ) where
  pub hashed_none : Hashed cells 2166136261 0
  hashed_none = record { inside = zero-le; rest = refl }

  pub hashed_next : (h i r : ℕ) → Hashed cells h i → i < length cells → r ≡ fnv_cell h (get_or cells i 0) → Hashed cells r (i + 1)
  unfolding fnv_from
  hashed_next h i r k l e =
      record {
        inside = add-one-le l;
        rest =
            rw (add-one, e) (sym (ap (λ xs. fnv_from h (cell_bytes xs)) (drop-cons cells i 0 l)) ∙ k.rest);
      }

  pub hashed_all : (h i : ℕ) → Hashed cells h i → length cells ≤ i → h ≡ row_hash cells
  unfolding fnv_from
  hashed_all h i k l = sym (ap (λ xs. fnv_from h (cell_bytes xs)) (drop_of_length-le cells l)) ∙ k.rest

-- The values that FNV-1a's authors publish: of the empty text, of `a`, of `foobar`.
pub empty_text : fnv1a [] ≡ 2166136261
unfolding fnv_from
empty_text = refl

pub text_a : fnv1a (97 ∷ []) ≡ 3826002220
unfolding fnv_from
text_a = refl

pub text_foobar : fnv1a (102 ∷ 111 ∷ 111 ∷ 98 ∷ 97 ∷ 114 ∷ []) ≡ 3214735720
unfolding fnv_from
text_foobar = refl

-- Three cells that spell `foobar`, the low byte of each first.
pub cells_foobar : row_hash (28518 ∷ 25199 ∷ 29281 ∷ []) ≡ 3214735720
unfolding fnv_from
cells_foobar = refl

-- The row of a leaf of symbol 6 that counts 7, and that of a row of symbol 8 over row 3.
pub leaf_hash : row_hash (words_cells 18446744073709486086 30064967679 0) ≡ 1578999038
unfolding fnv_from
leaf_hash = refl

pub node_hash : row_hash (encode_row (record { symbol = 8; kind = 0; payload = 0; children = 3 ∷ [] })) ≡ 1647065064
unfolding fnv_from
node_hash = refl
