-- Whether lines are keys, no two of them equal, by their numbers. Assumes nothing.
use mathlib.Core.Path.{◌≡◌, refl, ap, ◌∙◌}
use mathlib.Core.Bool.{Bool, true, false, ◌&&◌, ◌||◌, not}
use mathlib.Core.List.{List, [], ◌∷◌}
use Prim.Native.Nat.{ℕ, zero, suc, ◌<◌, ◌≤◌}
use native.Mathlib.Omega.{arith}
use borrow.Author.Tests.{le-leb, lt-leb}
use lib.Dec.{leb}
use lib.ListN.{length, get_or}
use Rattle.model.specs.Lists.{any, eq_list}
use Rattle.names.specs.Lines.{lines}
use Rattle.names.proofs.Tests.{and_false}
use Rattle.jsonrows.specs.Keys.{max_keys, key?, apart?, keys_fit?}
use Rattle.jsonrows.proofs.Finding.{eq_eq_list, eq_list_eq}

none_equal : (l : List ℕ) (ls : List (List ℕ)) → ((k : ℕ) → k < length ls → l ≡ get_or ls k [] → ⊥) → any (eq_list l) ls ≡ false
none_equal l [] h = refl
none_equal l (x ∷ ls) h = go (eq_list l x) refl (none_equal l ls (λ k m. h (suc k) (omega (arith, m))))
  where
    go : (b : Bool) → eq_list l x ≡ b → any (eq_list l) ls ≡ false → (b || any (eq_list l) ls) ≡ false
    go true e f = absurd (h 0 (omega arith) (eq_list_eq l x e))
    go false e f = f

one_equal : (l : List ℕ) (ls : List (List ℕ)) (k : ℕ) → k < length ls → l ≡ get_or ls k [] → any (eq_list l) ls ≡ true
one_equal l [] k m e = let z : ⊥ = omega (arith, m) in absurd z
one_equal l (x ∷ ls) zero m e = ap (λ b. b || any (eq_list l) ls) (eq_eq_list l x e)
one_equal l (x ∷ ls) (suc k) m e = go (eq_list l x) (one_equal l ls k (omega (arith, m)) e)
  where
    go : (b : Bool) → any (eq_list l) ls ≡ true → (b || any (eq_list l) ls) ≡ true
    go true t = refl
    go false t = t

pub all_apart : (ls : List (List ℕ)) → ((k : ℕ) → k < length ls → key? (get_or ls k []) ≡ true) → ((j k : ℕ) → j < length ls → k < length ls → get_or ls j [] ≡ get_or ls k [] → j ≡ k) → apart? ls ≡ true
unfolding apart?
all_apart [] f g = refl
all_apart (l ∷ ls) f g =
    let here : key? l ≡ true = f 0 (omega arith) in
    let new : any (eq_list l) ls ≡ false = none_equal l ls (λ k m e. let q = g 0 (suc k) (omega arith) (omega (arith, m)) e in omega (arith, q)) in
    let behind : apart? ls ≡ true = all_apart ls (λ k m. f (suc k) (omega (arith, m))) (λ j k a b e. let q = g (suc j) (suc k) (omega (arith, a)) (omega (arith, b)) e in omega (arith, q)) in
    (λ i. here i && (not (new i) && behind i))

pub no_key : (ls : List (List ℕ)) (k : ℕ) → k < length ls → key? (get_or ls k []) ≡ false → apart? ls ≡ false
unfolding apart?
no_key [] k m f = let z : ⊥ = omega (arith, m) in absurd z
no_key (l ∷ ls) zero m f = ap (λ b. b && (not (any (eq_list l) ls) && apart? ls)) f
no_key (l ∷ ls) (suc k) m f =
    ap (λ b. key? l && (not (any (eq_list l) ls) && b)) (no_key ls k (omega (arith, m)) f)
    ∙ ap (λ b. key? l && b) (and_false (not (any (eq_list l) ls))) ∙ and_false (key? l)

pub twice : (ls : List (List ℕ)) (j k : ℕ) → j < k → k < length ls → get_or ls j [] ≡ get_or ls k [] → apart? ls ≡ false
unfolding apart?
twice [] j k h m e = let z : ⊥ = omega (arith, m) in absurd z
twice (l ∷ ls) j zero h m e = let z : ⊥ = omega (arith, h) in absurd z
twice (l ∷ ls) zero (suc k) h m e =
    ap (λ b. key? l && (not b && apart? ls)) (one_equal l ls k (omega (arith, m)) e) ∙ and_false (key? l)
twice (l ∷ ls) (suc j) (suc k) h m e =
    ap (λ b. key? l && (not (any (eq_list l) ls) && b)) (twice ls j k (omega (arith, h)) (omega (arith, m)) e)
    ∙ ap (λ b. key? l && b) (and_false (not (any (eq_list l) ls))) ∙ and_false (key? l)

module _ (list : List ℕ) where
  pub lines_fit : length (lines list) ≤ max_keys → apart? (lines list) ≡ true → keys_fit? list ≡ true
  unfolding keys_fit?
  lines_fit l e = (λ i. le-leb (length (lines list)) max_keys l i && e i)

  pub many_lines : max_keys < length (lines list) → keys_fit? list ≡ false
  unfolding keys_fit?
  many_lines l = ap (λ b. b && apart? (lines list)) (lt-leb (length (lines list)) max_keys l)

  pub lines_unfit : apart? (lines list) ≡ false → keys_fit? list ≡ false
  unfolding keys_fit?
  lines_unfit e = ap (λ b. leb (length (lines list)) max_keys && b) e ∙ and_false (leb (length (lines list)) max_keys)
