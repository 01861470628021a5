-- Bytes put into a lent space, part after part: what the front holds afterwards. Assumes nothing.
use mathlib.Core.Path.{◌≡◌, refl, sym, ap, ◌∙◌}
use mathlib.Core.Bool.{Bool, true, false, cond}
use mathlib.Core.List.{List, [], ◌∷◌, ◌++◌, append_assoc, append-nil}
use Prim.Native.Nat.{ℕ, suc, ◌+◌, ◌-◌, ◌*◌, ◌/◌, ◌%◌, ◌≤◌, ◌<◌}
use native.Mathlib.Nat.{le_antisymm, le_of_eq}
use native.Mathlib.Numerals.{add-one, add-one-le}
use native.Mathlib.Omega.{arith}
use borrow.Author.Rules.{rules}
use borrow.Author.Tests.{le-leb, lt-leb, leb-true, leb-false}
use lib.Dec.{leb}
use lib.ListN.{length, take, drop, get_or, set, length-append, length-set, take-append-drop}
use lib.Seq.{length-take-le, paste, paste-zero, paste-suc, take_all, drop-drop}
use Rattle.model.specs.Lists.{concat_map}
use Rattle.model.specs.Space.{put_at}
use Rattle.model.proofs.Space.{put_fits, put_not, put_length, put_up_to, put_behind}
use Rattle.automaton.specs.Form.{tags_width, state_width}
use Rattle.automaton.specs.declared.Form.{Form}
use Rattle.automaton.specs.declared.Form.TheVariants.{Narrow, Wide, Isolating}
use Rattle.automaton.specs.Encode.{encode_word, encode_tags, encode_state, place_after, Put}
use Rattle.automaton.proofs.Words.{length_words, low_at, high_at}

-- bytes fit where the space has them left
fits_as : (space at n : ℕ) (b : Bool) → leb at (space - n) ≡ b → n ≤ space → b ≡ leb (at + n) space
fits_as space at n true e h = let l = leb-true at (space - n) e in sym (le-leb (at + n) space (omega arith))
fits_as space at n false e h = let l = leb-false at (space - n) e in sym (lt-leb (at + n) space (omega arith))

pub fits_left : (space at n : ℕ) → n ≤ space → leb at (space - n) ≡ leb (at + n) space
fits_left space at n h = fits_as space at n (leb at (space - n)) refl h

-- and what a flag f of that tells
pub fits_so : (f : Bool) (n m : ℕ) → f ≡ leb n m → f ≡ true → n ≤ m
fits_so f n m e y = leb-true n m (sym e ∙ y)

pub fits_not : (f : Bool) (n m : ℕ) → f ≡ leb n m → f ≡ false → m < n
fits_not f n m e y = leb-false n m (sym e ∙ y)

module _ (out : List ℕ) (at : ℕ) (bytes : List ℕ) where
  -- where the bytes fit whole
  module _ (h : at + length bytes ≤ length out) where
    pub after_fits : place_after out at bytes ≡ at + length bytes
    unfolding place_after
    after_fits = rw (le-leb (at + length bytes) (length out) h)

    pub put_done : (n : ℕ) (out' : List ℕ) → n ≡ length bytes → out' ≡ take at out ++ bytes ++ drop (at + n) out → Put out at bytes out' (at + n)
    put_done n out' e d = record { space = rw (put_fits out at bytes h, ← e) d; place = rw (after_fits, e) }

  -- where they do not
  module _ (h : length out < at + length bytes) where
    pub after_not : place_after out at bytes ≡ at
    unfolding place_after
    after_not = rw (lt-leb (at + length bytes) (length out) h)

    pub put_stays : Put out at bytes out at
    put_stays = record { space = sym (put_not out at bytes h); place = sym after_not }

-- bytes put whole, n of them
pub put_whole : (out : List ℕ) (at : ℕ) (bytes : List ℕ) (n : ℕ) (out' : List ℕ) → n ≡ length bytes → at + n ≤ length out → out' ≡ put_at out at bytes → Put out at bytes out' (at + n)
put_whole out at bytes n out' e h d = record { space = d; place = rw (after_fits out at bytes (rw (← e) h), e) }

pub state_length : (form : Form) (final : Bool) (mask : ℕ) → length (encode_state form final mask) ≡ state_width form
unfolding state_width tags_width encode_state encode_tags
state_length Narrow final mask = refl
state_length Wide final mask = refl
state_length Isolating final mask = refl

-- the bytes of a state are the first of three
pub state_bytes : (form : Form) (final : Bool) (mask n f l h : ℕ) → n ≡ state_width form → f ≡ cond final 1 0 → l ≡ mask % 256 → h ≡ mask / 256 % 256 → take n (f ∷ l ∷ h ∷ []) ≡ encode_state form final mask
unfolding state_width tags_width encode_state encode_tags
state_bytes Narrow final mask n f l h en ef el eh = rw (en, ef, el)
state_bytes Wide final mask n f l h en ef el eh = rw (en, ef, el, eh)
state_bytes Isolating final mask n f l h en ef el eh = rw (en, ef, el, eh)

-- words pasted by a loop: at its head the first i stand in the space
pub record Pasted (d : List ℕ) (at : ℕ) (ws out : List ℕ) (i : ℕ) : Type 0 where
  pub inside : i ≤ length ws
  pub long : length out ≡ length d
  pub is : out ≡ paste d at (concat_map encode_word ws) (2 * i)

module _ (d : List ℕ) (at : ℕ) (ws : List ℕ) (h : at + 2 * length ws ≤ length d) where
  pub pasted_none : Pasted d at ws d 0
  pasted_none = record { inside = omega arith; long = refl; is = paste-zero d at (concat_map encode_word ws) }

  pub pasted_more : (out : List ℕ) (i x y : ℕ) → Pasted d at ws out i → i < length ws → x ≡ get_or ws i 0 % 256 → y ≡ get_or ws i 0 / 256 % 256 → Pasted d at ws (set (set out (at + 2 * i) x) (at + 2 * i + 1) y) (i + 1)
  pasted_more out i x y p l ex ey =
      let B = concat_map encode_word ws in
      let n : length B ≡ 2 * length ws = length_words ws in
      let first : set out (at + 2 * i) x ≡ paste d at B (2 * i + 1) =
      rw (p.is, ex, ← low_at ws i l, add-one) (paste-suc d at B (2 * i) 0 (omega arith) (omega arith)) in
      let second : set (paste d at B (2 * i + 1)) (at + (2 * i + 1)) y ≡ paste d at B (suc (2 * i + 1)) =
      rw (ey, ← high_at ws i l) (paste-suc d at B (2 * i + 1) 0 (omega arith) (omega arith)) in
      let e : 2 * (i + 1) ≡ suc (2 * i + 1) = omega arith in
      let e' : at + 2 * i + 1 ≡ at + (2 * i + 1) = omega arith in
      record {
        inside = add-one-le l;
        long = length-set (set out (at + 2 * i) x) (at + 2 * i + 1) y ∙ length-set out (at + 2 * i) x ∙ p.long;
        is = rw (e, e', first) second;
      }

  pub pasted_all : (out : List ℕ) (i : ℕ) → Pasted d at ws out i → length ws ≤ i → out ≡ take at d ++ concat_map encode_word ws ++ drop (at + 2 * length ws) d
  pasted_all out i p l =
      let B = concat_map encode_word ws in
      let e : i ≡ length ws = le_antisymm p.inside l in
      p.is ∙ ap (λ (k : ℕ). paste d at B (2 * k)) e ∙ ap (λ (b : List ℕ). take at d ++ b ++ drop (at + 2 * length ws) d) (take_all (2 * length ws) B (le_of_eq (length_words ws)))

pub ruleset pastes = (pasted_none, pasted_more, pasted_all, rules)

-- A whole written part after part: it is what the front holds and what is left to put; behind the front the space is as it was lent.
pub record Writing (space whole out : List ℕ) (at : ℕ) (left : List ℕ) : Type 0 where
  pub room : length whole ≤ length space
  pub long : length out ≡ length space
  pub inside : at ≤ length out
  pub done : whole ≡ take at out ++ left
  pub behind : drop at out ≡ drop at space

module _ (space whole : List ℕ) where
  pub writing_none : length whole ≤ length space → Writing space whole space 0 whole
  writing_none h = record { room = h; long = refl; inside = omega arith; done = refl; behind = refl }

  module _ (out out' : List ℕ) (at at' : ℕ) (bytes left : List ℕ) (w : Writing space whole out at (bytes ++ left)) (p : Put out at bytes out' at') where
    -- what is put is a part of the whole, so it fits
    fits_whole : at + length bytes ≤ length out
    fits_whole =
        let e = ap (λ (l : List ℕ). length l) w.done in
        let a = length-append (take at out) (bytes ++ left) in
        let b = length-append bytes left in
        let t = length-take-le at out w.inside in
        omega (arith, w.room, w.long)

    pub writing_more : Writing space whole out' at' left
    writing_more =
        let h = fits_whole in
        let r : at' ≡ at + length bytes = p.place ∙ after_fits out at bytes h in
        let n : length out' ≡ length out = ap (λ (l : List ℕ). length l) p.space ∙ put_length out at bytes h in
        let front : take at' out' ≡ take at out ++ bytes = rw (r, p.space) (put_up_to out at bytes h) in
        let same : drop at' out' ≡ drop at' out = rw (r, p.space) (put_behind out at bytes h) in
        let here : drop at' out ≡ drop at' space =
        ap (λ (k : ℕ). drop k out) r ∙ sym (drop-drop (length bytes) at out) ∙ ap (λ (l : List ℕ). drop (length bytes) l) w.behind ∙ drop-drop (length bytes) at space ∙ ap (λ (k : ℕ). drop k space) (sym r) in
        record {
          room = w.room;
          long = n ∙ w.long;
          inside = omega arith;
          done = w.done ∙ sym (append_assoc (take at out) bytes left) ∙ ap (λ (l : List ℕ). l ++ left) (sym front);
          behind = same ∙ here;
        }

  module _ (out : List ℕ) (at : ℕ) (w : Writing space whole out at []) where
    pub writing_length : at ≡ length whole
    writing_length =
        let e = ap (λ (l : List ℕ). length l) w.done in
        let a = length-append (take at out) [] in
        let t = length-take-le at out w.inside in
        omega arith

    -- At the end the space holds the whole, and behind it what it held.
    pub writing_all : out ≡ whole ++ drop (length whole) space
    writing_all =
        let front : take at out ≡ whole = sym (w.done ∙ append-nil (take at out)) in
        sym (take-append-drop at out) ∙ ap (λ (l : List ℕ). l ++ drop at out) front ∙ ap (λ (l : List ℕ). whole ++ l) (w.behind ∙ ap (λ (n : ℕ). drop n space) writing_length)

pub ruleset writes = (writing_none, writing_more, writing_length, writing_all)
