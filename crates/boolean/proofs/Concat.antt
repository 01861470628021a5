-- Maps of lists put together, and a part in the middle of a list. Assumes nothing.
use mathlib.Core.Path.{◌≡◌, refl, sym, ap, ◌∙◌}
use mathlib.Core.List.{List, [], ◌∷◌, ◌++◌, map}
use Prim.Native.Nat.{ℕ, ◌+◌, ◌<◌, ◌≤◌}
use lib.ListN.{get_or, take, drop, take-append-drop}
use lib.Seq.{slice, take-take, get_or-take, get_or-drop}
use Rattle.model.specs.Lists.{concat_map}

module _ {Y Z : Type 0} (g : Y → Z) where
  pub map_append : (xs ys : List Y) → map g (xs ++ ys) ≡ map g xs ++ map g ys
  map_append [] ys = refl
  map_append (x ∷ xs) ys = ap (g x ∷◌) (map_append xs ys)

  pub map_concat_map : {X : Type 0} (f : X → List Y) (xs : List X) → concat_map (λ x. map g (f x)) xs ≡ map g (concat_map f xs)
  map_concat_map f [] = refl
  map_concat_map f (x ∷ xs) = ap (map g (f x) ++◌) (map_concat_map f xs) ∙ sym (map_append (f x) (concat_map f xs))

module _ {X : Type 0} (l : List X) (from to : ℕ) where
  -- what a part in the middle has at an index
  pub slice_at : (d : X) (i : ℕ) → from + i < to → get_or (slice from to l) i d ≡ get_or l (from + i) d
  slice_at d i h = get_or-drop from (take to l) i d ∙ get_or-take to l (from + i) d h

  pub slice_parts : from ≤ to → l ≡ take from l ++ slice from to l ++ drop to l
  slice_parts h =
      sym (take-append-drop to l)
      ∙ ap (◌++ drop to l) (sym (take-append-drop from (take to l)) ∙ ap (◌++ slice from to l) (take-take from to l h))
