-- A memory from a mask, bit by bit; the plan of a row; the room. Assumes nothing.
use mathlib.Core.Path.{◌≡◌, sym, ap, ◌∙◌}
use mathlib.Core.List.{List}
use mathlib.Core.Bool.{Bool, cond}
use Prim.Native.Nat.{ℕ, suc, ◌+◌, ◌/◌, ◌%◌, ◌^◌, ◌<◌, ◌≤◌}
use native.Mathlib.Omega.{arith}
use native.Mathlib.Nat.{div-div-eq-div-mul, div-one, zero-div, pow-suc}
use native.Mathlib.Numerals.{add-one}
use borrow.Author.Rules.{rules}
use lib.Dec.{eqb}
use lib.ListN.{length, get_or, set}
use lib.Seq.{get_or-set_other}
use Rattle.model.specs.Lists.{tab}
use Rattle.model.specs.Automaton.{bit?}
use Rattle.model.proofs.Tab.{tab_at}
use Rattle.automaton.proofs.Parts.{tab_same}
use Rattle.document.specs.Check.{place_in}
use Rattle.membership.specs.Cells.{memory_of, without}
use Rattle.judging.specs.Cells.{Short}
use Rattle.judging.specs.Plan.{Planned}
use Rattle.membership.specs.declared.table.Plan.{Plan}
use Rattle.membership.specs.Plan.{Bounds}
use Rattle.membership.proofs.Own.{Filled, filled_none, filled_more, own_at, kept_at, bit_set, bit_clear, own_bit}

-- a memory made from the bits of a mask: `f k b` stands at place k, b being bit k, and nothing yet at the places from k on
pub record Masking (mask : ℕ) (f : ℕ → Bool → ℕ) (tags : ℕ) (out : List ℕ) (rest k : ℕ) : Type 0 where
  pub filled : Filled tags (λ j. f j (bit? mask j)) 16 out k
  pub rest_is : rest ≡ mask / 2 ^ k
  pub empty : (j : ℕ) → k ≤ j → get_or out j 0 ≡ 0

module _ (mask : ℕ) (f : ℕ → Bool → ℕ) (tags : ℕ) (out : List ℕ) where
  pub masking_none : tags ≤ 16 → length out ≡ 16 → ((j : ℕ) → get_or out j 0 ≡ 0) → Masking mask f tags out mask 0
  masking_none h e z = record { filled = filled_none tags (λ j. f j (bit? mask j)) 16 out h e; rest_is = sym (div-one mask); empty = λ j _. z j }

  pub masking_more : (rest k v : ℕ) → Masking mask f tags out rest k → k < tags → v ≡ f k (eqb (rest % 2) 1) → Masking mask f tags (set out k v) (rest / 2) (k + 1)
  masking_more rest k v h l e =
      record {
        filled = filled_more tags (λ j. f j (bit? mask j)) 16 out k v h.filled l (e ∙ ap (λ z. f k (eqb (z % 2) 1)) h.rest_is);
        rest_is = ap (λ z. z / 2) h.rest_is ∙ div-div-eq-div-mul mask (2 ^ k) 2 ∙ ap (λ z. mask / z) (sym (pow-suc 2 k) ∙ ap (λ z. 2 ^ z) (sym (add-one k)));
        empty = λ j m. get_or-set_other out k j v 0 (λ q. omega arith) ∙ h.empty j (omega arith);
      }

  pub masking_all : (rest k : ℕ) → Masking mask f tags out rest k → tags ≤ k → (memory_of tags out ≡ tab tags (λ j. f j (bit? mask j))) × Short tags out
  unfolding memory_of
  masking_all rest k h l = (tab_same tags (λ j. get_or out j 0) (λ j. f j (bit? mask j)) (λ j m. h.filled.done j (omega arith)), λ j m _. h.empty j (let i = h.filled.inside in omega arith))

module _ (mask tags : ℕ) (memory : List ℕ) where
  without_is : without tags mask (memory_of tags memory) ≡ tab tags (λ k. kept_at memory k (bit? mask k))
  unfolding memory_of
  without_is =
      tab_same tags (λ k. cond (bit? mask k) 0 (get_or (tab tags (λ j. get_or memory j 0)) k 0)) (λ k. kept_at memory k (bit? mask k)) (λ k l. ap (cond (bit? mask k) 0) (tab_at 0 tags (λ j. get_or memory j 0) k l))

  pub kept_all : (out : List ℕ) (rest k : ℕ) → Masking mask (kept_at memory) tags out rest k → tags ≤ k → (memory_of tags out ≡ without tags mask (memory_of tags memory)) × Short tags out
  kept_all out rest k h l = let (e, short) = masking_all mask (kept_at memory) tags out rest k h l in (e ∙ sym without_is, short)

  -- without a tag in the mask nothing is dropped
  pub nothing_dropped : mask ≡ 0 → memory_of tags memory ≡ without tags mask (memory_of tags memory)
  unfolding memory_of
  nothing_dropped e =
      tab_same tags (λ k. get_or memory k 0) (λ k. kept_at memory k (bit? mask k)) (λ k l. ap (λ z. cond (eqb (z % 2) 1) 0 (get_or memory k 0)) (sym (zero-div (2 ^ k)) ∙ ap (λ z. z / 2 ^ k) (sym e)))
      ∙ sym without_is

-- the memory of a mask without tags
pub own_nothing : (row tags : ℕ) (out : List ℕ) (mask : ℕ) → mask ≡ 0 → ((k : ℕ) → get_or out k 0 ≡ 0) → (memory_of tags out ≡ tab tags (λ k. own_at row k (bit? mask k))) × Short tags out
unfolding memory_of
own_nothing row tags out mask e h = (tab_same tags (λ k. get_or out k 0) (λ k. own_at row k (bit? mask k)) (λ k l. h k ∙ sym (ap (λ z. cond (bit? z k) (suc row) 0) e ∙ ap (λ z. cond (eqb (z % 2) 1) (suc row) 0) (zero-div (2 ^ k)))), λ k _ _. h k)

pub ruleset masks = (masking_none, masking_more, bit_set, bit_clear, own_bit, rules)

-- the plan of a row, by the bounds of its windows
pub planned_by : (cells starts : List ℕ) (i tags arity base room : ℕ) (plan : Plan) → plan.tags ≡ tags → plan.arity ≡ arity → plan.base ≡ base → plan.room ≡ room → Bounds cells starts i arity 0 plan.low → Bounds cells starts i arity 1 plan.high → Planned cells starts i tags arity base room arity plan
planned_by cells starts i tags arity base room plan et ea eb er low high =
    record {
      tags_are = et;
      arity_is = ea;
      base_is = eb;
      room_is = er;
      low = λ p l. low p l ∙ (let z : place_in cells i p + 0 ≡ place_in cells i p = omega arith in ap (λ k. get_or starts k 0) z);
      high = high;
    }
