-- Row numbers by value: a list of them, and the list of their numbers. Assumes nothing.
use mathlib.Core.Path.{◌≡◌, refl, sym, ap, ◌∙◌}
use mathlib.Core.List.{List, [], ◌∷◌, map}
use Prim.Native.Nat.{ℕ, zero, suc}
use lib.ListN.{length, get_or, set, length-map, get_or-map}
use Rattle.document.specs.declared.rows.Row as row
use Rattle.document.specs.Fields.{as_row, as_rows, numbers_of}

abbrev number : row.Row → ℕ
number r = r.0

pub number_at : (rs : List row.Row) (k : ℕ) → (get_or rs k (as_row 0)).0 ≡ get_or (numbers_of rs) k 0
number_at rs k = sym (get_or-map number rs k (as_row 0))

-- an array's length, as a struct that holds it tells it
pub rows_long : {B : Type 0} (f : row.Row → B) (rs : List row.Row) (n : ℕ) → length (map f rs) ≡ n → length rs ≡ n
rows_long f rs n e = sym (length-map rs f) ∙ e

pub numbers_length : (rs : List row.Row) (n : ℕ) → length rs ≡ n → length (numbers_of rs) ≡ n
numbers_length rs n e = length-map rs number ∙ e

pub numbers_set : (rs : List row.Row) (k : ℕ) (r : row.Row) → numbers_of (set rs k r) ≡ set (numbers_of rs) k r.0
numbers_set [] k r = refl
numbers_set (x ∷ rs) zero r = refl
numbers_set (x ∷ rs) (suc k) r = ap {B = List ℕ} (λ l. x.0 ∷ l) (numbers_set rs k r)

-- there and back
pub numbers_of_lem : (rs : List row.Row) (xs : List ℕ) → rs ≡ as_rows xs → numbers_of rs ≡ xs
numbers_of_lem rs xs e = ap numbers_of e ∙ go xs
  where
    go : (xs : List ℕ) → numbers_of (as_rows xs) ≡ xs
    go [] = refl
    go (x ∷ xs) = ap {B = List ℕ} (λ l. x ∷ l) (go xs)

pub rows_of : (rs : List row.Row) (xs : List ℕ) → numbers_of rs ≡ xs → rs ≡ as_rows xs
rows_of rs xs e = sym (go rs) ∙ ap as_rows e
  where
    go : (rs : List row.Row) → as_rows (numbers_of rs) ≡ rs
    go [] = refl
    go (r ∷ rs) = ap {B = List row.Row} (λ l. r ∷ l) (go rs)

pub ruleset numbers = (number_at, numbers_length, numbers_of_lem)
