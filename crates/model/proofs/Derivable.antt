-- What holds of every annotation that derives: its row is known, its memory has a place for each tag and says what its children's memories say. Assumes nothing.
use mathlib.Core.Path.{◌≡◌, refl, sym, ap, ◌∙◌}
use mathlib.Core.List.Memᴰ.{eq_of_singleton}
use mathlib.Core.List.{List, Memᴰ as In}
use mathlib.Core.Bool.{cond}
use Prim.Native.Nat.{ℕ, zero, suc, ◌<◌}
use native.Mathlib.Omega.{arith}
use lib.Dec.{T}
use lib.ListN.{length, get_or}
use Rattle.model.specs.Automaton.{Rule, Automaton, carries?, forgets?}
use Rattle.model.specs.Table.{Row, row_at}
use Rattle.model.specs.Annotation.{Memory, agree?, joined, own_memory, kept, finish, Derivable, derived, Joins, joins_none, joins_more}
use Rattle.model.proofs.Members.{in_only}
use Rattle.model.proofs.Memory.{Within, within_left, within_right, length_joined, cond_at, drop_from, drop_other}
use Rattle.model.proofs.Tab.{tab_at, tab_from, length_tab}

-- what is left of a memory, and the last step
module _ (A : Automaton) where
  pub kept_from : (r : Rule) (m : Memory) (k j : ℕ) → get_or (kept A r m) k 0 ≡ suc j → (k < A.tags) × (T (forgets? r k) → ⊥) × (get_or m k 0 ≡ suc j)
  kept_from r m k j h = let (l, e) = tab_from A.tags _ k j h in let (n, e') = drop_from (forgets? r k) (get_or m k 0) j e in (l, n, e')

  pub kept_at : (r : Rule) (m : Memory) (k : ℕ) → k < A.tags → (T (forgets? r k) → ⊥) → get_or (kept A r m) k 0 ≡ get_or m k 0
  kept_at r m k l n = tab_at 0 A.tags _ k l ∙ drop_other (forgets? r k) (get_or m k 0) n

  pub kept_width : (r : Rule) (m : Memory) → length (kept A r m) ≡ A.tags
  kept_width r m = length_tab A.tags (λ k. cond (forgets? r k) 0 (get_or m k 0))

  pub finish_joined : (q i : ℕ) (m : Memory) {y : Memory} → In y (finish A q i m) → T (agree? m (own_memory A q i)) × (y ≡ joined m (own_memory A q i))
  finish_joined q i m h = let (t, g) = in_only (agree? m (own_memory A q i)) _ h in (t, eq_of_singleton g)

  pub finish_within : (q i : ℕ) (m : Memory) {y : Memory} → In y (finish A q i m) → Within m y
  finish_within q i m h = rw (finish_joined q i m h).1 (within_left m (own_memory A q i))

  pub finish_own : (q i : ℕ) (m : Memory) {y : Memory} → In y (finish A q i m) → (k : ℕ) → k < A.tags → T (carries? A q k) → get_or y k 0 ≡ suc i
  finish_own q i m h k l c =
      let (t, e) = finish_joined q i m h in
      rw e (within_right m (own_memory A q i) t k i (tab_at 0 A.tags _ k l ∙ cond_at (carries? A q k) i c))

  finish_width : (q i : ℕ) (m : Memory) {y : Memory} → In y (finish A q i m) → length m ≡ A.tags → length y ≡ A.tags
  finish_width q i m h e =
      let own = length_tab A.tags (λ k. cond (carries? A q k) (suc i) 0) in
      ap length (finish_joined q i m h).1 ∙ length_joined m (own_memory A q i) (e ∙ sym own) ∙ own

module _ (A : Automaton) (rows : List Row) where
  pub row_known : {i q : ℕ} {m : Memory} → Derivable A rows i q m → i < length rows
  row_known (derived l ir es et js iy) = l

  -- every memory has a place for each tag
  mutual
    pub width : {i q : ℕ} {m : Memory} → Derivable A rows i q m → length m ≡ A.tags
    width (derived {i = i} {q = q} {r = r} {m = m} l ir es et js iy) = finish_width A q i (kept A r m) iy (kept_width A r m)

    pub joins_width : {m y : Memory} {cs qs : List ℕ} → Joins A rows m cs qs y → length m ≡ A.tags → length y ≡ A.tags
    joins_width joins_none h = h
    joins_width (joins_more {m = m} {x = x} d t js) h = joins_width js (length_joined m x (h ∙ sym (width d)) ∙ width d)

  pub joins_within : {m y : Memory} {cs qs : List ℕ} → Joins A rows m cs qs y → Within m y
  joins_within joins_none k j h = h
  joins_within (joins_more {m = m} {x = x} d t js) k j h = joins_within js k j (within_left m x k j h)

  -- what a child's memory says the joined memory says
  pub child_within : {m y : Memory} {cs qs : List ℕ} → Joins A rows m cs qs y → (j : ℕ) → j < length cs → (x : Memory) × Derivable A rows (get_or cs j 0) (get_or qs j 0) x × Within x y
  child_within joins_none j l = let z : ⊥ = omega arith in absurd z
  child_within (joins_more {m = m} {x = x} d t js) zero l = (x, d, λ k j h. joins_within js k j (within_right m x t k j h))
  child_within (joins_more d t js) (suc j) l = child_within js j (omega arith)

  pub as_many : {m y : Memory} {cs qs : List ℕ} → Joins A rows m cs qs y → length qs ≡ length cs
  as_many joins_none = refl
  as_many (joins_more d t js) = ap suc (as_many js)

  -- Each child's memory is within the annotation's, but for what the rule forgets.
  pub children_within : {i q : ℕ} {y : Memory} → Derivable A rows i q y → (r : Rule) × ((j : ℕ) → j < length (row_at rows i).children → (x : Memory) × Derivable A rows (get_or (row_at rows i).children j 0) (get_or r.children j 0) x × Within (kept A r x) y)
  children_within (derived {i = i} {q = q} {r = r} {m = m} l ir es et js iy) = (
    r,
    λ j h.
        let (x, d, w) = child_within js j h in
        (x, d, λ k n e. let (lk, o, e') = kept_from A r x k n e in finish_within A q i (kept A r m) iy k n (kept_at A r m k lk o ∙ w k n e')),
  )
