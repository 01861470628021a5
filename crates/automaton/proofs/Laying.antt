-- Parts put one after the other, and loops that put a list part by part. Assumes nothing.
use mathlib.Core.Path.{◌≡◌, sym, ap, ◌∙◌, subst}
use mathlib.Core.Bool.{Bool, true, false}
use mathlib.Core.List.{List, [], ◌++◌, append_assoc, append-nil}
use Prim.Native.Nat.{ℕ, suc, ◌+◌, ◌-◌, ◌*◌, ◌<◌, ◌≤◌}
use native.Mathlib.Nat.{add-zero}
use native.Mathlib.Numerals.{add-one}
use native.Mathlib.Omega.{arith}
use lib.Dec.{leb}
use lib.ListN.{length, get_or, take, drop, length-append, length-drop, take-append-drop}
use lib.Seq.{take_at, take_all, length-take-le, drop-append-add, drop-drop}
use Rattle.model.specs.Lists.{concat_map}
use Rattle.model.proofs.Space.{put_fits}
use Rattle.automaton.specs.Encode.{Put}
use Rattle.automaton.specs.Laid.{Laid}
use Rattle.automaton.proofs.Parts.{length_concat, concat_map_append, concat_map_more}
use Rattle.automaton.proofs.Put.{fits_so, fits_not, after_fits, put_stays}

module _ {before after : List ℕ} {at end : ℕ} {part : List ℕ} (p : Laid before after at end part) where
  front_length : length (take at before ++ part) ≡ end
  front_length = length-append (take at before) part ∙ (let e = p.ends in let l = p.inside in let t = length-take-le at before (omega arith) in omega arith)

  pub laid_length : length after ≡ length before
  laid_length = ap length p.holds ∙ length-append (take at before ++ part) (drop end before) ∙ (let e = front_length in let d = length-drop end before in let l = p.inside in omega arith)

  -- the space up to the part's end
  pub laid_front : take end after ≡ take at before ++ part
  laid_front = ap (take end) p.holds ∙ take_at (take at before ++ part) (drop end before) end front_length

  laid_behind : (n : ℕ) → end ≤ n → drop n after ≡ drop n before
  laid_behind n l =
      let e : n ≡ length (take at before ++ part) + (n - end) = (let f = front_length in omega arith) in
      ap (drop n) p.holds
      ∙ ap (λ (k : ℕ). drop k (take at before ++ part ++ drop end before)) e
      ∙ drop-append-add (take at before ++ part) (drop end before) (n - end)
      ∙ drop-drop (n - end) end before
      ∙ ap (λ (k : ℕ). drop k before) (let z : end + (n - end) ≡ n = omega arith in z)

  -- one part after another
  pub laid_then : {last : List ℕ} {end' : ℕ} {part' : List ℕ} → Laid after last end end' part' → Laid before last at end' (part ++ part')
  laid_then {last} {end'} {part'} q = record {
    ends = q.ends ∙ (let e = p.ends in let d = length-append part part' in omega arith);
    inside = subst (end' ≤◌) laid_length q.inside;
    holds =
        q.holds
        ∙ ap (λ (z : List ℕ). z ++ part' ++ drop end' after) laid_front
        ∙ ap (λ (z : List ℕ). take at before ++ part ++ part' ++ z) (laid_behind end' (let e = q.ends in omega arith))
        ∙ ap (λ (z : List ℕ). z ++ drop end' before) (append_assoc (take at before) part part');
  }

pub laid_nothing : (space : List ℕ) (at : ℕ) → at ≤ length space → Laid space space at at []
laid_nothing space at l = record { ends = sym (add-zero at); inside = l; holds = sym (ap (◌++ drop at space) (append-nil (take at space)) ∙ take-append-drop at space) }

-- bytes that a writer of the stored form has put where they fit
pub laid_put : (out out' : List ℕ) (at r : ℕ) (bytes : List ℕ) → Put out at bytes out' r → at + length bytes ≤ length out → Laid out out' at r bytes
laid_put out out' at r bytes p l =
    let e : r ≡ at + length bytes = p.place ∙ after_fits out at bytes l in
    record { ends = e; inside = omega arith; holds = p.space ∙ put_fits out at bytes l ∙ ap (λ (n : ℕ). take at out ++ bytes ++ drop n out) (sym e) }

-- and back: a part that is laid is put
pub put_laid : (out out' : List ℕ) (at r : ℕ) (bytes : List ℕ) → Laid out out' at r bytes → Put out at bytes out' r
put_laid out out' at r bytes p =
    let l : at + length bytes ≤ length out = (let e = p.ends in let i = p.inside in omega arith) in
    record {
      space = p.holds ∙ ap (λ (n : ℕ). take at out ++ bytes ++ drop n out) p.ends ∙ sym (put_fits out at bytes l);
      place = p.ends ∙ sym (after_fits out at bytes l);
    }

-- A loop that puts a part for each member of a list: at its head those of the first i are put.
module _ {X : Type 0} (f : X → List ℕ) where
  concat_map_within : (xs : List X) (i : ℕ) → length (concat_map f (take i xs)) ≤ length (concat_map f xs)
  concat_map_within xs i =
      let e = ap (λ (l : List X). length (concat_map f l)) (sym (take-append-drop i xs)) in
      let d = ap length (concat_map_append f (take i xs) (drop i xs)) in
      let n = length-append (concat_map f (take i xs)) (concat_map f (drop i xs)) in
      omega arith

  pub record Parts (xs : List X) (before after : List ℕ) (at end i : ℕ) : Type 0 where
    pub laid : Laid before after at end (concat_map f (take i xs))
    pub few : i ≤ length xs
    pub room : at + length (concat_map f xs) ≤ length before

  module _ (d : X) (xs : List X) (before : List ℕ) (at : ℕ) where
    pub parts_none : at + length (concat_map f xs) ≤ length before → Parts xs before before at at 0
    parts_none l = record { laid = laid_nothing before at (omega arith); few = omega arith; room = l }

    module _ (after : List ℕ) (end i : ℕ) (h : Parts xs before after at end i) where
      pub parts_room : i < length xs → end + length (f (get_or xs i d)) ≤ length after
      parts_room l =
          let e = h.laid.ends in
          let r = h.room in
          let n = laid_length h.laid in
          let m = concat_map_within xs (suc i) in
          let c = ap length (concat_map_more f d xs i l) in
          let s = length-append (concat_map f (take i xs)) (f (get_or xs i d)) in
          omega arith

      pub parts_more : (last : List ℕ) (end' : ℕ) → i < length xs → Laid after last end end' (f (get_or xs i d)) → Parts xs before last at end' (i + 1)
      parts_more last end' l q = record {
        laid = subst (Laid before last at end') (sym (concat_map_more f d xs i l) ∙ ap (λ (n : ℕ). concat_map f (take n xs)) (sym (add-one i))) (laid_then h.laid q);
        few = omega arith;
        room = h.room;
      }

      pub parts_all : length xs ≤ i → Laid before after at end (concat_map f xs)
      parts_all l = subst (λ (ys : List X). Laid before after at end (concat_map f ys)) (take_all i xs l) h.laid

      -- the part put by a writer of the stored form
      pub parts_put : (bytes last : List ℕ) (end' : ℕ) → i < length xs → bytes ≡ f (get_or xs i d) → Put after end bytes last end' → Parts xs before last at end' (i + 1)
      parts_put bytes last end' l e p =
          parts_more last end' l (subst (Laid after last end end') e (laid_put after last end end' bytes p (let r = parts_room l in let n = ap length e in omega arith)))

-- Whether parts of width w fit, all of them, told by a flag b of their length m.
module _ {X : Type 0} (f : X → List ℕ) (w : ℕ) (wide : (x : X) → length (f x) ≡ w) (xs : List X) (out : List ℕ) (at m : ℕ) (b : Bool) (e : m ≡ w * length xs) (h : b ≡ leb (at + m) (length out)) where
  long : length (concat_map f xs) ≡ m
  long = length_concat f w wide xs ∙ sym e

  pub parts_fit : b ≡ true → at + length (concat_map f xs) ≤ length out
  parts_fit y = rw long (fits_so b (at + m) (length out) h y)

  pub parts_stay : b ≡ false → Put out at (concat_map f xs) out at
  parts_stay y = put_stays out at (concat_map f xs) (rw long (fits_not b (at + m) (length out) h y))
