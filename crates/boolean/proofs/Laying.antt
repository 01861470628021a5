-- Loops that put a list number by number. Assumes nothing.
use mathlib.Core.Path.{◌≡◌, refl, sym, ap, ◌∙◌, subst}
use mathlib.Core.List.{List, [], ◌∷◌, ◌++◌, append-nil, append_assoc}
use Prim.Native.Nat.{ℕ, ◌+◌, ◌<◌, ◌≤◌}
use native.Mathlib.Nat.{add-zero}
use native.Mathlib.Numerals.{add-one}
use native.Mathlib.Omega.{arith}
use lib.ListN.{length, get_or, take, drop, set}
use lib.Seq.{take_all, take-suc, set_split, drop-length, append_snoc, drop-drop}
use borrow.Rule.Slice.PartMut.{put_mid}
use Rattle.automaton.specs.Laid.{Laid}
use Rattle.automaton.proofs.Laying.{laid_length, laid_then, laid_nothing}

pub laid_number : (space : List ℕ) (at x : ℕ) → at < length space → Laid space (set space at x) at (at + 1) (x ∷ [])
laid_number space at x l = record {
  ends = refl;
  inside = omega arith;
  holds = set_split space at x l ∙ ap (λ (k : ℕ). take at space ++ x ∷ drop k space) (sym (add-one at)) ∙ sym (append_snoc (take at space) x (drop (at + 1) space));
}

-- a part that fills the space
pub laid_all : {before after part : List ℕ} {end : ℕ} → Laid before after 0 end part → end ≡ length before → after ≡ part
laid_all {before} {after} {part} p e = p.holds ∙ ap (λ (n : ℕ). part ++ drop n before) e ∙ ap (part ++◌) (drop-length before) ∙ append-nil part

-- A loop that puts the numbers of a list: at its head k are put.
pub record Filling (all before after : List ℕ) (at k : ℕ) : Type 0 where
  pub laid : Laid before after at (at + k) (take k all)
  pub few : k ≤ length all
  pub room : at + length all ≤ length before

module _ (all before : List ℕ) (at : ℕ) where
  pub filling_none : at + length all ≤ length before → Filling all before before at 0
  filling_none l = record {
    laid = subst (λ (e : ℕ). Laid before before at e []) (sym (add-zero at)) (laid_nothing before at (omega arith));
    few = omega arith;
    room = l;
  }

  module _ (after : List ℕ) (k : ℕ) (h : Filling all before after at k) where
    filling_more : (x : ℕ) → k < length all → x ≡ get_or all k 0 → Filling all before (set after (at + k) x) at (k + 1)
    filling_more x l e = record {
      laid =
          subst (λ (j : ℕ). Laid before (set after (at + k) x) at j (take (k + 1) all)) (let z : at + k + 1 ≡ at + (k + 1) = omega arith in z)
          (subst (Laid before (set after (at + k) x) at (at + k + 1)) next
          (laid_then h.laid (laid_number after (at + k) x (let d = laid_length h.laid in let r = h.room in omega arith))));
      few = omega arith;
      room = h.room;
    }
      where
        next : take k all ++ x ∷ [] ≡ take (k + 1) all
        next = ap (λ (y : ℕ). take k all ++ y ∷ []) e ∙ sym (take-suc all k 0 l) ∙ ap (λ (n : ℕ). take n all) (sym (add-one k))

    -- the same at an index that was read
    pub filling_at : (j x : ℕ) → j ≡ k → k < length all → x ≡ get_or all k 0 → Filling all before (set after (at + j) x) at (k + 1)
    filling_at j x z l e = subst (λ (i : ℕ). Filling all before (set after (at + i) x) at (k + 1)) (sym z) (filling_more x l e)

    pub filling_front : at ≡ 0 → (j x : ℕ) → j ≡ k → k < length all → x ≡ get_or all k 0 → Filling all before (set after j x) at (k + 1)
    filling_front z j x y l e = subst (λ (i : ℕ). Filling all before (set after i x) at (k + 1)) (let d : at + j ≡ j = omega arith in d) (filling_at j x y l e)

    pub filling_all : length all ≤ k → Laid before after at (at + k) all
    filling_all l = subst (Laid before after at (at + k)) (take_all k all l) h.laid

-- a part that is written over a part of its length
pub laid_part : (space part : List ℕ) (at n : ℕ) → at + n ≤ length space → length part ≡ n → Laid space (put_mid at n space part) at (at + n) part
laid_part space part at n l e = record {
  ends = ap (at +◌) (sym e);
  inside = l;
  holds =
      ap (λ (z : List ℕ). take at space ++ (part ++ z)) (drop-drop n at space)
      ∙ sym (append_assoc (take at space) part (drop (at + n) space));
}
