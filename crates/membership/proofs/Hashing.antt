-- An annotation's slot, number by number. Assumes nothing.
use mathlib.Core.Path.{◌≡◌, refl, sym, ap, ◌∙◌}
use mathlib.Core.List.{List}
use Prim.Native.Nat.{ℕ, zero, suc, ◌+◌, ◌%◌, ◌<◌, ◌≤◌}
use native.Mathlib.Omega.{arith}
use native.Mathlib.Nat.{mod-lt}
use native.Mathlib.Numerals.{add-one}
use borrow.Author.Rules.{rules}
use lib.ListN.{length, get_or}
use Rattle.model.specs.Lists.{tab}
use Rattle.model.specs.Annotation.{annotation}
use Rattle.model.proofs.Tab.{tab_at, length_tab}
use Rattle.membership.specs.Cells.{memory_of}
use Rattle.membership.specs.Index.{mixed, mixed_to, slot_of}

mixed_same : (f g : ℕ → ℕ) (n h : ℕ) → ((k : ℕ) → k < n → f k ≡ g k) → mixed_to f n h ≡ mixed_to g n h
unfolding mixed_to
mixed_same f g zero h e = refl
mixed_same f g (suc n) h e = cc (mixed_same f g n h (λ k l. e k (omega arith)), e n (omega arith))

-- the numbers below k are in the hash h
pub record Mixing (start : ℕ) (memory : List ℕ) (tags h k : ℕ) : Type 0 where
  pub inside : k ≤ tags
  pub small : h < 65536
  pub wide : length memory ≡ 16
  pub is : h ≡ mixed_to (λ k. get_or memory k 0) k start

module _ (start : ℕ) (memory : List ℕ) (tags : ℕ) where
  pub mixing_none : length memory ≡ 16 → start < 65536 → Mixing start memory tags start 0
  unfolding mixed_to
  mixing_none w l = record { inside = omega arith; small = l; wide = w; is = refl }

  pub mixing_more : (h k h' : ℕ) → Mixing start memory tags h k → k < tags → h' ≡ mixed h (get_or memory k 0) → h' < 65536 → Mixing start memory tags h' (k + 1)
  unfolding mixed_to
  mixing_more h k h' m l e s = record { inside = omega arith; small = s; wide = m.wide; is = rw (add-one k) (e ∙ ap (λ z. mixed z (get_or memory k 0)) m.is) }

pub mixing_all : (i q x start : ℕ) (memory : List ℕ) (tags room h k : ℕ) → x ≡ i → start ≡ mixed x q → Mixing start memory tags h k → tags ≤ k → h % room ≡ slot_of room (annotation i q (memory_of tags memory))
unfolding slot_of memory_of
mixing_all i q x start memory tags room h k ei es m l =
    let e : k ≡ tags = let z = m.inside in omega arith in
    let n = length_tab tags (λ k. get_or memory k 0) in
    ap (λ z. z % room)
    (m.is
    ∙ ap (mixed_to (λ k. get_or memory k 0) k) (es ∙ ap (λ z. mixed z q) ei)
    ∙ ap (λ z. mixed_to (λ k. get_or memory k 0) z (mixed i q)) (e ∙ sym n)
    ∙ mixed_same (λ k. get_or memory k 0) (λ k. get_or (tab tags (λ k. get_or memory k 0)) k 0) (length (tab tags (λ k. get_or memory k 0))) (mixed i q) (λ j h. sym (tab_at 0 tags (λ k. get_or memory k 0) j (omega arith))))

pub ruleset hashes = (mixing_none, mixing_more, mixing_all, mod-lt, rules)
