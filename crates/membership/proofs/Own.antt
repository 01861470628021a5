-- A memory from a mask, bit by bit; the counts before the rows of a row's children; the room. Assumes nothing.
use mathlib.Core.Path.{◌≡◌, refl, sym, ap, ◌∙◌}
use mathlib.Core.List.{List}
use mathlib.Core.Bool.{Bool, true, false, cond}
use Prim.Native.Nat.{ℕ, suc, ◌+◌, ◌/◌, ◌%◌, ◌^◌, ◌<◌, ◌≤◌, min}
use native.Mathlib.Omega.{arith}
use native.Mathlib.Decide.{ℕ_discrete}
use native.Mathlib.Nat.{div-div-eq-div-mul, div-one, zero-div, pow-suc}
use native.Mathlib.Numerals.{add-one}
use borrow.Author.Rules.{rules}
use borrow.Author.Tests.{eq-eqb, ne_eqb, leb-true, leb-false}
use lib.Dec.{eqb, leb}
use lib.ListN.{length, get_or, set, length-set}
use lib.Seq.{get_or-set_same, get_or-set_other}
use Rattle.model.specs.Limits.{max_children, max_steps}
use Rattle.model.specs.Lists.{tab}
use Rattle.model.specs.Automaton.{bit?}
use Rattle.model.proofs.Tab.{tab_at}
use Rattle.automaton.proofs.Parts.{tab_same}
use Rattle.document.specs.Check.{place_in}
use Rattle.membership.specs.Cells.{annotation_cells, room_of, memory_of, without}
use Rattle.membership.specs.Plan.{Bounds}

-- a list filled from the front, place by place: what each place holds is a function of its number
pub record Filled (n : ℕ) (f : ℕ → ℕ) (width : ℕ) (out : List ℕ) (k : ℕ) : Type 0 where
  pub fits : n ≤ width
  pub inside : k ≤ n
  pub wide : length out ≡ width
  pub done : (j : ℕ) → j < k → get_or out j 0 ≡ f j

module _ (n : ℕ) (f : ℕ → ℕ) (width : ℕ) (out : List ℕ) where
  pub filled_none : n ≤ width → length out ≡ width → Filled n f width out 0
  filled_none h e = record { fits = h; inside = omega arith; wide = e; done = λ j l. let z : ⊥ = omega arith in absurd z }

  pub filled_more : (k v : ℕ) → Filled n f width out k → k < n → v ≡ f k → Filled n f width (set out k v) (k + 1)
  filled_more k v h l e =
      record { fits = h.fits; inside = omega arith; wide = length-set out k v ∙ h.wide; done = λ j m. go j m (ℕ_discrete j k) }
    where
      go : (j : ℕ) → j < k + 1 → Dec (j ≡ k) → get_or (set out k v) j 0 ≡ f j
      go j m (yes q) = rw q (get_or-set_same out k v 0 (omega (arith, h.fits, h.wide)) ∙ e)
      go j m (no q) = get_or-set_other out k j v 0 q ∙ h.done j (omega (arith, q))

-- a memory made from the bits of a mask: `f k b` stands at place k, b being bit k
pub record Masking (mask : ℕ) (f : ℕ → Bool → ℕ) (tags : ℕ) (out : List ℕ) (rest k : ℕ) : Type 0 where
  pub filled : Filled tags (λ j. f j (bit? mask j)) 16 out k
  pub rest_is : rest ≡ mask / 2 ^ k

module _ (mask : ℕ) (f : ℕ → Bool → ℕ) (tags : ℕ) (out : List ℕ) where
  pub masking_none : tags ≤ 16 → length out ≡ 16 → Masking mask f tags out mask 0
  masking_none h e = record { filled = filled_none tags (λ j. f j (bit? mask j)) 16 out h e; rest_is = sym (div-one mask) }

  pub masking_more : (rest k v : ℕ) → Masking mask f tags out rest k → k < tags → v ≡ f k (eqb (rest % 2) 1) → Masking mask f tags (set out k v) (rest / 2) (k + 1)
  masking_more rest k v h l e =
      record {
        filled = filled_more tags (λ j. f j (bit? mask j)) 16 out k v h.filled l (e ∙ ap (λ z. f k (eqb (z % 2) 1)) h.rest_is);
        rest_is = ap (λ z. z / 2) h.rest_is ∙ div-div-eq-div-mul mask (2 ^ k) 2 ∙ ap (λ z. mask / z) (sym (pow-suc 2 k) ∙ ap (λ z. 2 ^ z) (sym (add-one k)));
      }

  pub masking_all : (rest k : ℕ) → Masking mask f tags out rest k → tags ≤ k → memory_of tags out ≡ tab tags (λ j. f j (bit? mask j))
  unfolding memory_of
  masking_all rest k h l = tab_same tags (λ j. get_or out j 0) (λ j. f j (bit? mask j)) (λ j m. h.filled.done j (omega arith))

-- the row at each tag of the mask; and a memory without them
abbrev pub own_at : ℕ → ℕ → Bool → ℕ
own_at row k b = cond b (suc row) 0

abbrev pub kept_at : List ℕ → ℕ → Bool → ℕ
kept_at memory k b = cond b 0 (get_or memory k 0)

module _ (mask tags : ℕ) (memory : List ℕ) where
  without_is : without tags mask (memory_of tags memory) ≡ tab tags (λ k. kept_at memory k (bit? mask k))
  unfolding memory_of
  without_is =
      tab_same tags (λ k. cond (bit? mask k) 0 (get_or (tab tags (λ j. get_or memory j 0)) k 0)) (λ k. kept_at memory k (bit? mask k)) (λ k l. ap (cond (bit? mask k) 0) (tab_at 0 tags (λ j. get_or memory j 0) k l))

  pub kept_all : (out : List ℕ) (rest k : ℕ) → Masking mask (kept_at memory) tags out rest k → tags ≤ k → memory_of tags out ≡ without tags mask (memory_of tags memory)
  kept_all out rest k h l = masking_all mask (kept_at memory) tags out rest k h l ∙ sym without_is

  -- without a tag in the mask nothing is dropped
  pub nothing_dropped : mask ≡ 0 → memory_of tags memory ≡ without tags mask (memory_of tags memory)
  unfolding memory_of
  nothing_dropped e =
      tab_same tags (λ k. get_or memory k 0) (λ k. kept_at memory k (bit? mask k)) (λ k l. ap (λ z. cond (eqb (z % 2) 1) 0 (get_or memory k 0)) (sym (zero-div (2 ^ k)) ∙ ap (λ z. z / 2 ^ k) (sym e)))
      ∙ sym without_is

pub bit_set : (mask x y : ℕ) → mask % 2 ≡ 1 → x ≡ cond (eqb (mask % 2) 1) x y
bit_set mask x y e = sym (ap (λ b. cond b x y) (eq-eqb (mask % 2) 1 e))

pub bit_clear : (mask x y : ℕ) → (mask % 2 ≡ 1 → ⊥) → y ≡ cond (eqb (mask % 2) 1) x y
bit_clear mask x y h = sym (ap (λ b. cond b x y) (ne_eqb (mask % 2) 1 h))

pub own_bit : (mask row : ℕ) → mask % 2 ≡ 1 → row + 1 ≡ cond (eqb (mask % 2) 1) (suc row) 0
own_bit mask row e = add-one row ∙ bit_set mask (suc row) 0 e

pub ruleset masks = (masking_none, masking_more, masking_all, kept_all, bit_set, bit_clear, own_bit, rules)

-- the counts before the children's rows
abbrev pub bound_of : List ℕ → List ℕ → ℕ → ℕ → ℕ → ℕ
bound_of cells starts i shift p = get_or starts (place_in cells i p + shift) 0

-- of at most four children all are told
pub bounds_whole : (cells starts : List ℕ) (i n shift : ℕ) (out : List ℕ) → n ≤ 4 → Bounds cells starts i (min n max_children) shift out → Bounds cells starts i n shift out
bounds_whole cells starts i n shift out few told p l = told p (omega (arith, few, l))

-- the room
pub room_least : (cells n : ℕ) → n ≡ min (cells / annotation_cells) max_steps → n ≡ room_of cells
unfolding room_of
room_least cells n e = e ∙ go (leb (cells / annotation_cells) max_steps) refl
  where
    go : (b : Bool) → leb (cells / annotation_cells) max_steps ≡ b → min (cells / annotation_cells) max_steps ≡ cond b (cells / annotation_cells) max_steps
    go true e = let l = leb-true (cells / annotation_cells) max_steps e in omega arith
    go false e = let l = leb-false (cells / annotation_cells) max_steps e in omega arith

pub ruleset rooms = (room_least, rules)
