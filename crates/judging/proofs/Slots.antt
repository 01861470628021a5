-- A slot of the memories that were tried: what is read of it, and what is put in it. Assumes nothing.
use mathlib.Core.Path.{◌≡◌, sym, ap, ◌∙◌}
use mathlib.Core.Logic.{◌⊎◌, inl, inr}
use mathlib.Core.List.{List}
use mathlib.Core.Bool.{Bool, true}
use Prim.Native.Nat.{ℕ, ◌+◌, ◌*◌, ◌<◌, ◌≤◌}
use native.Mathlib.Omega.{arith}
use native.Mathlib.Decide.{ℕ_discrete}
use lib.ListN.{length, get_or, set}
use lib.Seq.{get_or-set_same, get_or-set_other}
use Rattle.membership.specs.Cells.{memory_of}
use Rattle.judging.specs.Cells.{SameIn}
use Rattle.judging.specs.Tried.{slots, untried, stamp_in, tried_in, stamp_of, SlotIs, Stands, Kept}
use Rattle.judging.specs.declared.tried.Slot.{Slot}
use Rattle.judging.proofs.Places.{same_memories}

pub stands : (cells : List Slot) (slot row rule left stamp tags : ℕ) (memory : List ℕ) (r : Bool) → slot < slots → tags ≤ 16 → (get_or cells slot untried).row ≡ row + 1 → (get_or cells slot untried).stamp ≡ stamp → stamp ≡ rule * 8 + left → SameIn memory (get_or cells slot untried).memory r → r ≡ true → Stands (stamp_of row rule left) tags (memory_of tags memory) cells
unfolding stamp_in tried_in
stands cells slot row rule left stamp tags memory r l few er es e same t =
    record { slot = slot; inside = l; stamped = omega (arith, er, es, e); holds = sym (same_memories memory (get_or cells slot untried).memory r same t tags few) }

pub kept_new : (before : List Slot) (memory : List ℕ) (slot row rule left stamp : ℕ) → slot < slots → slots ≤ length before → stamp ≡ rule * 8 + left → Kept before (stamp_of row rule left) memory (set before slot (record { row = row + 1; stamp = stamp; memory = memory }))
unfolding stamp_in tried_in
kept_new before memory slot row rule left stamp l long es s m = go (ℕ_discrete s slot)
  where
    put : Slot
    put = record { row = row + 1; stamp = stamp; memory = memory }

    go : Dec (s ≡ slot) → SlotIs (stamp_in before s) (λ tags. tried_in tags before s) (set before slot put) s ⊎ SlotIs (stamp_of row rule left) (λ tags. memory_of tags memory) (set before slot put) s
    go (yes e) =
        let q : get_or (set before slot put) s untried ≡ put = ap (λ k. get_or (set before slot put) k untried) e ∙ get_or-set_same before slot put untried (omega arith) in
        let w = ap (λ (x : Slot). x.row * 8192 + x.stamp) q in
        inr (record { stamped = w ∙ (let z : (row + 1) * 8192 + stamp ≡ stamp_of row rule left = omega arith in z); holds = λ tags few. ap (λ (x : Slot). memory_of tags x.memory) q })
    go (no e) =
        let q = get_or-set_other before slot s put untried e in
        inl (record { stamped = ap (λ (x : Slot). x.row * 8192 + x.stamp) q; holds = λ tags few. ap (λ (x : Slot). memory_of tags x.memory) q })
