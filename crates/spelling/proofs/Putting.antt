-- One text put behind another: what the writers know between two calls. Assumes nothing.
use mathlib.Core.Path.{◌≡◌, refl, sym, ap, subst, ◌∙◌}
use mathlib.Core.List.Memᴰ.{head as here}
use mathlib.Core.List.Memᴰ.{tail as there}
use mathlib.Core.List.{List, [], ◌∷◌, ◌++◌, append_assoc, append-nil, Memᴰ as In}
use Prim.Native.Nat.{ℕ, ◌+◌, ◌<◌, ◌≤◌}
use native.Mathlib.Numerals.{add-one}
use native.Mathlib.Omega.{arith}
use lib.ListN.{length, take, drop, set, length-append}
use lib.Seq.{set_split, drop-drop}
use Rattle.model.specs.Limits.{unused}
use Rattle.model.specs.Space.{put_at}
use Rattle.model.proofs.Space.{put_fits, put_length, put_up_to, put_behind, put_none}
use Rattle.document.specs.Rows.{row_in}
use Rattle.document.specs.Check.{row_count, place_in}
use Rattle.document.proofs.Places.{rest_in, rest_first, rest_more}
use Rattle.spelling.specs.declared.piece.Piece.{Piece}
use Rattle.spelling.specs.Text.{scalar_text}
use Rattle.spelling.specs.Rows.{SoundCells, row_text, list_text}
use Rattle.spelling.specs.Parts.{text_of, Holds, Wrote}
use Rattle.spelling.proofs.Pieces.{text_put}
use Rattle.spelling.proofs.Texts.{no_children_lem, some_children, below, behind, row_text_lem, leaf_text, list_text_lem}
use Rattle.spelling.proofs.Summing.{place_in_use}

-- b behind a is a ++ b
put_more : (d : List ℕ) (at : ℕ) (a b : List ℕ) → at + length a + length b ≤ length d → put_at (put_at d at a) (at + length a) b ≡ put_at d at (a ++ b)
put_more d at a b fits =
    let first : at + length a ≤ length d = omega arith in
    let n : at + length a + length b ≡ at + length (a ++ b) = let l = length-append a b in omega arith in
    let t : take (at + length a) (put_at d at a) ≡ take at d ++ a = put_up_to d at a first in
    let g : drop (at + length a + length b) (put_at d at a) ≡ drop (at + length (a ++ b)) d = sym (drop-drop (length b) (at + length a) (put_at d at a)) ∙ ap (drop (length b)) (put_behind d at a first) ∙ drop-drop (length b) (at + length a) d ∙ ap (λ k. drop k d) n in
    put_fits (put_at d at a) (at + length a) b (rw (put_length d at a first) fits)
    ∙ (λ i. t i ++ b ++ g i)
    ∙ ap (λ l. l ++ drop (at + length (a ++ b)) d) (append_assoc (take at d) a b)
    ∙ sym (put_fits d at (a ++ b) (omega arith))

pub one_byte : (d : List ℕ) (at b : ℕ) → at < length d → Wrote d at (b ∷ []) (set d at b) (at + 1)
one_byte d at b l =
    record {
      place = refl;
      is = set_split d at b l ∙ ap (λ n. take at d ++ b ∷ drop n d) (sym (add-one at)) ∙ sym (append_assoc (take at d) (b ∷ []) (drop (at + 1) d)) ∙ sym (put_fits d at (b ∷ []) (omega arith));
    }

-- a piece's text
pub piece_wrote : (d : List ℕ) (at : ℕ) (p : Piece) (after text : List ℕ) (r : ℕ) → Holds p text → (r ≡ length (text_of p)) × (after ≡ put_at d at (text_of p)) → Wrote d at text after (at + r)
piece_wrote d at p after text r h f = let (count, is) = text_put d at p after text r h f in record { place = ap (λ n. at + n) count; is = is }

-- what is done and what is left make the whole
pub record Written (d : List ℕ) (at : ℕ) (whole rest : List ℕ) (p : ℕ) (now : List ℕ) : Type 0 where
  pub done : List ℕ
  pub joined : done ++ rest ≡ whole
  pub place : p ≡ at + length done
  pub is : now ≡ put_at d at done
  pub fits : at + length whole ≤ length d

module _ (d : List ℕ) (at : ℕ) (whole : List ℕ) where
  pub written_none : at + length whole ≤ length d → Written d at whole whole at d
  written_none l = record { done = []; joined = refl; place = omega arith; is = sym (put_none d at (omega arith)); fits = l }

  module _ (a rest : List ℕ) (p : ℕ) (now : List ℕ) (w : Written d at whole (a ++ rest) p now) where
    so_long : at + length w.done + length a + length rest ≤ length d
    so_long =
        let x = ap length w.joined in
        let y = length-append w.done (a ++ rest) in
        let z = length-append a rest in
        omega (arith, w.fits)

    pub written_room : p + length a ≤ length now
    written_room =
        let l = so_long in
        let e = ap length w.is ∙ put_length d at w.done (omega arith) in
        omega (arith, w.place)

    pub written_more : (q : ℕ) (next : List ℕ) → Wrote now p a next q → Written d at whole rest q next
    written_more q next f =
        let l = so_long in
        let n = length-append w.done a in
        record {
          done = w.done ++ a;
          joined = append_assoc w.done a rest ∙ w.joined;
          place = omega (arith, f.place, w.place);
          is = f.is ∙ (λ i. put_at (w.is i) (w.place i) a) ∙ put_more d at w.done a (omega arith);
          fits = w.fits;
        }

  pub written_all : (p : ℕ) (now : List ℕ) → Written d at whole [] p now → Wrote d at whole now p
  written_all p now w = let e : w.done ≡ whole = sym (append-nil w.done) ∙ w.joined in record { place = w.place ∙ ap (λ l. at + length l) e; is = w.is ∙ ap (put_at d at) e }

-- two texts that make the whole
module _ (d : List ℕ) (at : ℕ) (a b whole : List ℕ) (e : whole ≡ a ++ b) (fits : at + length whole ≤ length d) where
  begun : Written d at (a ++ b) (a ++ b) at d
  begun = written_none d at (a ++ b) (rw e at fits)

  pub first_fits : at + length a ≤ length d
  first_fits = written_room d at (a ++ b) a b at d begun

  module _ (p : ℕ) (mid : List ℕ) (w : Wrote d at a mid p) where
    half : Written d at (a ++ b) (b ++ []) p mid
    half = rw append-nil (written_more d at (a ++ b) a b at d begun p mid w)

    pub second_fits : p + length b ≤ length mid
    second_fits = written_room d at (a ++ b) b [] p mid half

    pub both_wrote : (r : ℕ) (new : List ℕ) → Wrote mid p b new r → Wrote d at whole new r
    both_wrote r new v = subst (λ t. Wrote d at t new r) (sym e) (written_all d at (a ++ b) r new (written_more d at (a ++ b) b [] p mid half r new v))

-- a row's text: its name, then its scalar or its children
module _ (name : ℕ → List ℕ) (cells : List ℕ) (s : SoundCells cells) (i : ℕ) (l : i < row_count cells) (y : ℕ) (known : y ≡ (row_in cells i).symbol) (d : List ℕ) (at : ℕ) (fits : at + length (row_text name cells i) ≤ length d) where
  named : (t : List ℕ) → row_text name cells i ≡ name (row_in cells i).symbol ++ t → row_text name cells i ≡ name y ++ t
  named t e = e ∙ ap (λ z. name z ++ t) (sym known)

  pub name_room : at + length (name y) ≤ length d
  name_room = first_fits d at (name y) (behind cells s name i (row_in cells i).children) (row_text name cells i) (named (behind cells s name i (row_in cells i).children) (row_text_lem cells s name i l)) fits

  module _ (p : ℕ) (mid : List ℕ) (w : Wrote d at (name y) mid p) (x : ℕ) (e : x ≡ place_in cells i 0) where
    module _ (u : x ≡ unused) where
      abbrev scalar : List ℕ
      scalar = scalar_text (row_in cells i).kind (row_in cells i).payload

      is_leaf : row_text name cells i ≡ name y ++ scalar
      is_leaf = named scalar (leaf_text cells s name i l (no_children_lem cells i x e u))

      pub leaf_room : p + length (scalar_text (row_in cells i).kind (row_in cells i).payload) ≤ length mid
      leaf_room = second_fits d at (name y) scalar (row_text name cells i) is_leaf fits p mid w

      pub leaf_wrote : (r : ℕ) (new : List ℕ) → Wrote mid p (scalar_text (row_in cells i).kind (row_in cells i).payload) new r → Wrote d at (row_text name cells i) new r
      leaf_wrote = both_wrote d at (name y) scalar (row_text name cells i) is_leaf fits p mid w

    module _ (u : x ≡ unused → ⊥) where
      abbrev list : List ℕ
      list = list_text (row_text name cells) 40 (row_in cells i).children

      is_list : row_text name cells i ≡ name y ++ list
      is_list = named list (list_text_lem cells s name i l (some_children cells i x e u))

      pub children_room : p + length (list_text (row_text name cells) 40 (row_in cells i).children) ≤ length mid
      children_room = second_fits d at (name y) list (row_text name cells i) is_list fits p mid w

      pub children_wrote : (r : ℕ) (new : List ℕ) → Wrote mid p (list_text (row_text name cells) 40 (row_in cells i).children) new r → Wrote d at (row_text name cells i) new r
      children_wrote = both_wrote d at (name y) list (row_text name cells i) is_list fits p mid w

-- the list writer at the head of its loop: children from place k on are left, all below row i
pub record Listing (text : ℕ → List ℕ) (cells : List ℕ) (i : ℕ) (d : List ℕ) (at lead k p : ℕ) (now : List ℕ) : Type 0 where
  pub written : Written d at (list_text text 40 (row_in cells i).children) (list_text text lead (rest_in cells i k)) p now
  pub lower : (j : ℕ) → In j (rest_in cells i k) → j < i

module _ (text : ℕ → List ℕ) (cells : List ℕ) (i : ℕ) (d : List ℕ) (at : ℕ) where
  abbrev whole : List ℕ
  whole = list_text text 40 (row_in cells i).children

  pub list_none : SoundCells cells → i < row_count cells → at + length (list_text text 40 (row_in cells i).children) ≤ length d → Listing text cells i d at 40 0 at d
  list_none s l fits = let e = rest_first cells i in record { written = subst (λ cs. Written d at whole (list_text text 40 cs) at d) e (written_none d at whole fits); lower = subst (λ cs. (j : ℕ) → In j cs → j < i) e (below cells s i l) }

  module _ (lead k p : ℕ) (now : List ℕ) (h : Listing text cells i d at lead k p now) (none : rest_in cells i k ≡ []) where
    ending : Written d at whole ((41 ∷ []) ++ []) p now
    unfolding list_text
    ending = subst (λ cs. Written d at whole (list_text text lead cs) p now) none h.written

    pub list_end_room : p < length now
    list_end_room = let r = written_room d at whole (41 ∷ []) [] p now ending in omega arith

    pub list_end : (r : ℕ) (new : List ℕ) → Wrote now p (41 ∷ []) new r → Wrote d at (list_text text 40 (row_in cells i).children) new r
    list_end r new w = written_all d at whole r new (written_more d at whole (41 ∷ []) [] p now ending r new w)

  module _ (lead k p : ℕ) (now : List ℕ) (h : Listing text cells i d at lead k p now) (x : ℕ) (e : x ≡ place_in cells i k) where
    module _ (u : x ≡ unused → ⊥) where
      abbrev left : List ℕ
      left = list_text text 44 (rest_in cells i (k + 1))

      going : Written d at whole ((lead ∷ []) ++ (text x ++ left)) p now
      unfolding list_text
      going = subst (λ cs. Written d at whole (list_text text lead cs) p now) (rest_more cells i k x (place_in_use cells i k x e u) e u) h.written

      pub list_room : p < length now
      list_room = let r = written_room d at whole (lead ∷ []) (text x ++ left) p now going in omega arith

      pub list_below : x < i
      list_below = h.lower x (rw (rest_more cells i k x (place_in_use cells i k x e u) e u) (here refl))

      module _ (q : ℕ) (mid : List ℕ) (w : Wrote now p (lead ∷ []) mid q) where
        opened : Written d at whole (text x ++ left) q mid
        opened = written_more d at whole (lead ∷ []) (text x ++ left) p now going q mid w

        pub list_fits : q + length (text x) ≤ length mid
        list_fits = written_room d at whole (text x) left q mid opened

        pub list_more : (r : ℕ) (new : List ℕ) → Wrote mid q (text x) new r → Listing text cells i d at 44 (k + 1) r new
        list_more r new v =
            record {
              written = written_more d at whole (text x) left q mid opened r new v;
              lower = λ j m. h.lower j (rw (rest_more cells i k x (place_in_use cells i k x e u) e u) (there m));
            }
