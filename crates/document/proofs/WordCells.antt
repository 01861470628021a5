-- Cells as numbers, the first lowest: read, compared, and put into a space of rows. Assumes nothing.
use mathlib.Core.Path.{◌≡◌, refl, sym, ap, ◌∙◌}
use mathlib.Core.Bool.{Bool, true, false, ◌&&◌}
use mathlib.Core.List.{List, [], ◌∷◌, ◌++◌, append_assoc}
use Prim.Native.Nat.{ℕ, zero, suc, ◌+◌, ◌*◌, ◌/◌, ◌%◌, ◌^◌, ◌<◌, ◌≤◌}
use native.Mathlib.Nat.{pow-suc, mod-mod}
use native.Mathlib.Numerals.{add-one}
use native.Mathlib.Omega.{arith}
use borrow.Author.Tests.{eqb-true, eqb-false, eq-eqb, lt-ltb, le-ltb}
use lib.Arith.{mod-mul}
use lib.Dec.{eqb}
use lib.ListN.{length, get_or, set, take, drop, length-append}
use lib.Seq.{set_split, drop-drop}
use Rattle.model.specs.Limits.{max_rows, unused}
use Rattle.model.specs.Lists.{eq_list, tab}
use Rattle.model.specs.Space.{put_at}
use Rattle.model.proofs.Space.{put_fits, put_length, put_up_to, put_behind}
use Rattle.automaton.proofs.Parts.{tab_same}
use Rattle.document.specs.Rows.{row_cells, cell_in, places_of, split_cells}
use Rattle.document.specs.Words.{words_cells, Words, cells_at, same_words}

-- ---- numbers of cells

-- the lower half of four cells, and the upper
pub split_four : (x : ℕ) → split_cells 4 x ≡ split_cells 2 x ++ split_cells 2 (x / 4294967296)
split_four x =
    let a : x / 65536 / 65536 ≡ x / 4294967296 = omega arith in
    rw a

-- only so much of a number counts as its cells hold
pub split_low : (x : ℕ) → split_cells 2 (x % 4294967296) ≡ split_cells 2 x
split_low x =
    let a : x % 4294967296 % 65536 ≡ x % 65536 = omega arith in
    let d : x % 4294967296 ≡ x / 65536 % 65536 * 65536 + x % 65536 = mod-mul x {m = 65536} {c = 65536} (omega arith) (omega arith) in
    let b : x % 4294967296 / 65536 ≡ x / 65536 % 65536 = omega arith in
    rw (a, b, mod-mod (x / 65536) 65536)

-- ---- two numbers are the same where their cells are

eq_digits : (x y : ℕ) → (eqb (x % 65536) (y % 65536) && eqb (y / 65536) (x / 65536)) ≡ eqb y x
eq_digits x y = go (eqb (x % 65536) (y % 65536)) (eqb (y / 65536) (x / 65536)) (eqb y x) refl refl refl
  where
    go : (p q r : Bool) → eqb (x % 65536) (y % 65536) ≡ p → eqb (y / 65536) (x / 65536) ≡ q → eqb y x ≡ r → (p && q) ≡ r
    go true true true e f g = refl
    go true true false e f g = let a = eqb-true (x % 65536) (y % 65536) e in let b = eqb-true (y / 65536) (x / 65536) f in absurd (eqb-false y x g (omega arith))
    go true false true e f g = let a = eqb-true y x g in absurd (eqb-false (y / 65536) (x / 65536) f (omega arith))
    go true false false e f g = refl
    go false q true e f g = let a = eqb-true y x g in absurd (eqb-false (x % 65536) (y % 65536) e (omega arith))
    go false q false e f g = refl

pub eq_split : (n x y : ℕ) → x < 65536 ^ n → y < 65536 ^ n → eq_list (split_cells n x) (split_cells n y) ≡ eqb y x
eq_split zero x y h l = sym (eq-eqb y x (omega arith))
eq_split (suc n) x y h l =
    let e = pow-suc 65536 n in
    ap (λ b. eqb (x % 65536) (y % 65536) && b) (eq_split n (x / 65536) (y / 65536) (omega arith) (omega arith)) ∙ eq_digits x y

eq_append : (us xs vs ys : List ℕ) → length us ≡ length xs → eq_list (us ++ vs) (xs ++ ys) ≡ (eq_list us xs && eq_list vs ys)
eq_append [] [] vs ys e = refl
eq_append [] (x ∷ xs) vs ys e = absurd (omega arith)
eq_append (u ∷ us) [] vs ys e = absurd (omega arith)
eq_append (u ∷ us) (x ∷ xs) vs ys e = ap (λ t. eqb u x && t) (eq_append us xs vs ys (omega arith)) ∙ assoc (eqb u x)
  where
    assoc : (p : Bool) → (p && (eq_list us xs && eq_list vs ys)) ≡ ((p && eq_list us xs) && eq_list vs ys)
    assoc true = refl
    assoc false = refl

-- ---- row i, whose cells stand from a place on

module _ (cells : List ℕ) (i at : ℕ) (place : at ≡ i * row_cells) where
  cells_from_lem : (n k p : ℕ) → p ≡ at + k → cells_at n cells p ≡ tab n (λ j. cell_in cells i (k + j))
  unfolding cell_in
  cells_from_lem n k p e =
      tab_same n (λ j. get_or cells (p + j) 0) (λ j. get_or cells (i * row_cells + (k + j)) 0)
      (λ j l. let q : p + j ≡ i * row_cells + (k + j) = omega arith in ap (λ m. get_or cells m 0) q)

  module _ (a b c x y z : ℕ) (ha : a < 2 ^ 64) (hb : b < 2 ^ 64) (hx : x < 2 ^ 64) (hy : y < 2 ^ 64) (hz : z < 4294967296) (ex : split_cells 4 x ≡ cells_at 4 cells at) (ey : split_cells 4 y ≡ cells_at 4 cells (at + 4)) (ez : split_cells 2 z ≡ cells_at 2 cells (at + 8)) where
    row_cells_lem : words_cells x y z ≡ tab row_cells (cell_in cells i)
    row_cells_lem =
        let z : at ≡ at + 0 = omega arith in
        cc (ex ∙ cells_from_lem 4 0 at z, ey ∙ cells_from_lem 4 4 (at + 4) refl, ez ∙ cells_from_lem 2 8 (at + 8) refl)

    last : eqb z (c % 4294967296) ≡ eq_list (split_cells 2 c) (split_cells 2 z)
    last = sym (eq_split 2 (c % 4294967296) z (omega arith) hz) ∙ ap (λ l. eq_list l (split_cells 2 z)) (split_low c)

    words_eq : (eqb x a && eqb y b && eqb z (c % 4294967296)) ≡ eq_list (words_cells a b c) (words_cells x y z)
    words_eq =
        ap (λ t. t && eqb y b && eqb z (c % 4294967296)) (sym (eq_split 4 a x ha hx))
        ∙ ap (λ t. eq_list (split_cells 4 a) (split_cells 4 x) && t && eqb z (c % 4294967296)) (sym (eq_split 4 b y hb hy))
        ∙ ap (λ t. eq_list (split_cells 4 a) (split_cells 4 x) && eq_list (split_cells 4 b) (split_cells 4 y) && t) last
        ∙ ap (λ t. t && eq_list (split_cells 2 c) (split_cells 2 z)) (sym (eq_append (split_cells 4 a) (split_cells 4 x) (split_cells 4 b) (split_cells 4 y) refl))
        ∙ sym (eq_append (split_cells 4 a ++ split_cells 4 b) (split_cells 4 x ++ split_cells 4 y) (split_cells 2 c) (split_cells 2 z) refl)

    pub words_same : i < max_rows → (eqb x a && eqb y b && eqb z (c % 4294967296)) ≡ same_words cells a b c i
    unfolding same_words
    words_same l = rw (lt-ltb i max_rows l) (words_eq ∙ ap (eq_list (words_cells a b c)) row_cells_lem)

pub no_row : (cells : List ℕ) (a b c i : ℕ) → max_rows ≤ i → false ≡ same_words cells a b c i
unfolding same_words
no_row cells a b c i l = rw (le-ltb i max_rows l)

-- a leaf's words: its symbol and unused places; one more, the kind and half the payload; the other half
pub leaf_words : (symbol kind payload a b c : ℕ) → payload < 2 ^ 64 → split_cells 4 a ≡ symbol ∷ unused ∷ unused ∷ unused ∷ [] → split_cells 4 b ≡ unused ∷ kind ∷ payload % 65536 ∷ payload / 65536 % 65536 ∷ [] → c ≡ payload / 4294967296
    → Words (record { symbol = symbol; kind = kind; payload = payload; children = [] }) a b c
leaf_words symbol kind payload a b c h ea eb ec =
    record {
      kept = record { few = omega arith; used_all = refl; payload = h };
      cells =
          ap (λ l. symbol ∷ places_of [] ++ kind ∷ l) (split_four payload ∙ ap (λ n. split_cells 2 payload ++ split_cells 2 n) (sym ec))
          ∙ ap (λ l. l ++ (unused ∷ kind ∷ payload % 65536 ∷ payload / 65536 % 65536 ∷ []) ++ split_cells 2 c) (sym ea)
          ∙ ap (λ l. split_cells 4 a ++ l ++ split_cells 2 c) (sym eb);
    }

-- ---- cells put into a space, some behind the others

module _ (out : List ℕ) (at : ℕ) where
  pub put_one : (x : ℕ) → at < length out → set out at x ≡ put_at out at (x ∷ [])
  put_one x h =
      set_split out at x h ∙ sym (append_assoc (take at out) (x ∷ []) (drop (suc at) out))
      ∙ ap (λ k. take at out ++ x ∷ [] ++ drop k out) (sym (add-one at)) ∙ sym (put_fits out at (x ∷ []) (omega arith))

  module _ (xs ys : List ℕ) (h : at + length xs + length ys ≤ length out) where
    pub put_more : put_at (put_at out at xs) (at + length xs) ys ≡ put_at out at (xs ++ ys)
    put_more =
        let e = put_length out at xs (omega arith) in
        let l : length (xs ++ ys) ≡ length xs + length ys = length-append xs ys in
        put_fits (put_at out at xs) (at + length xs) ys (omega arith)
        ∙ ap (λ f. f ++ ys ++ drop (at + length xs + length ys) (put_at out at xs)) (put_up_to out at xs (omega arith))
        ∙ ap (λ r. take at out ++ xs ++ ys ++ r) behind
        ∙ ap (λ f. f ++ drop (at + length (xs ++ ys)) out) (append_assoc (take at out) xs ys)
        ∙ sym (put_fits out at (xs ++ ys) (omega arith))
      where
        behind : drop (at + length xs + length ys) (put_at out at xs) ≡ drop (at + length (xs ++ ys)) out
        behind =
            sym (drop-drop (length ys) (at + length xs) (put_at out at xs))
            ∙ ap (drop (length ys)) (put_behind out at xs (omega arith))
            ∙ drop-drop (length ys) (at + length xs) out
            ∙ (let e : at + length xs + length ys ≡ at + length (xs ++ ys) = omega (arith, length-append xs ys) in rw e)

-- two cells, four, and ten
module _ (out : List ℕ) (at : ℕ) where
  pub put_pair : (x u v : ℕ) → at + 2 ≤ length out → u ≡ x % 65536 → v ≡ x / 65536 % 65536 → set (set out at u) (at + 1) v ≡ put_at out at (split_cells 2 x)
  put_pair x u v h e f =
      let l = put_length out at (u ∷ []) (omega arith) in
      ap (λ o. set o (at + 1) v) (put_one out at u (omega arith))
      ∙ put_one (put_at out at (u ∷ [])) (at + 1) v (omega arith)
      ∙ put_more out at (u ∷ []) (v ∷ []) (omega arith)
      ∙ (rw (e, f))

  pub put_pairs : (x : ℕ) (mid end : List ℕ) → at + 4 ≤ length out → mid ≡ put_at out at (split_cells 2 x) → end ≡ put_at mid (at + 2) (split_cells 2 (x / 4294967296)) → end ≡ put_at out at (split_cells 4 x)
  put_pairs x mid end h e f =
      f
      ∙ ap (λ o. put_at o (at + 2) (split_cells 2 (x / 4294967296))) e
      ∙ put_more out at (split_cells 2 x) (split_cells 2 (x / 4294967296)) (omega arith)
      ∙ ap (put_at out at) (sym (split_four x))

  pub put_row_words : (a b c : ℕ) (m n end : List ℕ) → at + 10 ≤ length out → m ≡ put_at out at (split_cells 4 a) → n ≡ put_at m (at + 4) (split_cells 4 b) → end ≡ put_at n (at + 8) (split_cells 2 c) → end ≡ put_at out at (words_cells a b c)
  put_row_words a b c m n end h e f g =
      g
      ∙ ap (λ o. put_at o (at + 8) (split_cells 2 c)) (f ∙ ap (λ o. put_at o (at + 4) (split_cells 4 b)) e ∙ put_more out at (split_cells 4 a) (split_cells 4 b) (omega arith))
      ∙ put_more out at (split_cells 4 a ++ split_cells 4 b) (split_cells 2 c) (omega arith)

-- A leaf of symbol 6 that counts 7.
pub seven : Words (record { symbol = 6; kind = 2; payload = 7; children = [] }) 18446744073709486086 30064967679 0
seven = leaf_words 6 2 7 18446744073709486086 30064967679 0 (omega arith) refl refl refl
