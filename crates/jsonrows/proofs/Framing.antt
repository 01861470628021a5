-- Items whose rest is still to come: what their frames hold, and the rows that are made of them. Assumes nothing.
use mathlib.Core.Path.{◌≡◌, refl, sym, ap, subst, ◌∙◌}
use mathlib.Core.Bool.{Bool, true, false}
use mathlib.Core.List.{List, [], ◌∷◌, ◌++◌}
use Rattle.std.specs.Prelude.{Result, Ok, Err}
use Prim.Native.Nat.{ℕ, zero, suc, ◌+◌, ◌-◌, ◌<◌, ◌≤◌}
use native.Mathlib.Omega.{arith}
use native.Mathlib.Numerals.{add-one}
use borrow.Author.Tests.{ltb-true, ltb-false}
use lib.Dec.{ltb}
use lib.ListN.{length, get_or, set}
use lib.Seq.{get_or-set_same, get_or-set_other}
use Rattle.model.specs.Limits.{unused}
use Rattle.document.specs.declared.rows.Row as row_number
use Rattle.jsonrows.specs.Signature.{other, text_leaf}
use Rattle.jsonrows.specs.Grammar.{Built, Outcome, good, refused, node_row, finish, joined, close_at}
use Rattle.jsonrows.specs.State.{key_rows, built_in, Holds, Says, says_read, says_refused}
use Rattle.jsonrows.specs.Frames.{no_item, frame_at, frame_symbol, frame_key, frame_value, joins, Frame, Framed, Same, FrameSet}
use Rattle.base.specs.Refusals.{number}
use Rattle.base.specs.declared.refusal.TextRefusal.{TextRefusal}
use Rattle.jsonrows.specs.declared.tables.Item.{Item}
use Rattle.jsonrows.specs.declared.rows.Part.{Part}
use Rattle.jsonrows.proofs.Holding.{says_by, Said}
use Rattle.jsonrows.proofs.Growing.{as_many, finish_grows, close_grows}

-- nothing changed; from a later place on; one after the other
pub same_self : {i : ℕ} {a : List Item} → Same i a a
same_self = record { at = λ j h. refl }

pub same_from : (i k : ℕ) → i ≤ k → {a b : List Item} → Same i a b → Same k a b
same_from i k le s = record { at = λ j h. s.at j (omega (arith, le, h)) }

pub same_then : {i : ℕ} {a b c : List Item} → Same i a b → Same i b c → Same i a c
same_then s r = record { at = λ j h. r.at j h ∙ s.at j h }

-- the frame that is written
pub frame_set : (fs : List Item) (l : ℕ) (x : Item) → l < length fs → FrameSet fs (set fs l x) l x.symbol x.key.0 x.value.0
frame_set fs l x room =
    record {
      symbol_is = ap (λ (y : Item). y.symbol) (get_or-set_same fs l x no_item room);
      key_is = ap (λ (y : Item). y.key.0) (get_or-set_same fs l x no_item room);
      value_is = ap (λ (y : Item). y.value.0) (get_or-set_same fs l x no_item room);
      above = record { at = λ j h. get_or-set_other fs l j x no_item (λ e. omega (arith, e, h)) };
    }

-- ---- the rows of several items

pub joins_refused : (limit : ℕ) (fs : List Item) (l n w p : ℕ) → joins limit fs l n (refused w p) ≡ refused w p
joins_refused limit fs l zero w p = refl
joins_refused limit fs l (suc n) w p = joins_refused limit fs (suc l) n w p

-- they depend on the frames from the first on only
pub joins_same : (limit : ℕ) (fs gs : List Item) (l n : ℕ) → Same l fs gs → (o : Outcome) → joins limit fs l n o ≡ joins limit gs l n o
joins_same limit fs gs l zero same o = refl
joins_same limit fs gs l (suc n) same o =
    ap (λ (x : Item). joins limit fs (suc l) n (joined limit x.symbol (key_rows x.symbol x.key.0 ++ x.value.0 ∷ []) o)) (sym (same.at l (omega arith)))
    ∙ joins_same limit fs gs (suc l) n (same_from l (suc l) (omega arith) same) (joined limit (frame_symbol gs l) (key_rows (frame_symbol gs l) (frame_key gs l) ++ frame_value gs l ∷ []) o)

-- the first of them
pub joins_first : (limit : ℕ) (fs : List Item) (l top : ℕ) → l < top → (o : Outcome) → joins limit fs l (top - l) o ≡ joins limit fs (l + 1) (top - (l + 1)) (joined limit (frame_symbol fs l) (key_rows (frame_symbol fs l) (frame_key fs l) ++ frame_value fs l ∷ []) o)
joins_first limit fs l top h o = let e : top - l ≡ suc (top - (l + 1)) = omega (arith, h) in ap (λ n. joins limit fs l n o) e ∙ ap (λ m. joins limit fs m (top - (l + 1)) (joined limit (frame_symbol fs l) (key_rows (frame_symbol fs l) (frame_key fs l) ++ frame_value fs l ∷ []) o)) (sym (add-one l))

-- none is left
pub joins_none : (limit : ℕ) (fs : List Item) (l top : ℕ) → top ≤ l → (o : Outcome) → joins limit fs l (top - l) o ≡ o
joins_none limit fs l top h o = let e : top - l ≡ 0 = omega (arith, h) in ap (λ n. joins limit fs l n o) e

-- what closes the items is known
module _ {t cells slots starts found old : List ℕ} {before limit : ℕ} (fs : List Item) (l n : ℕ) {o : Outcome} where
  pub close_refused : {e : TextRefusal} → o ≡ refused (number e.refusal) e.place → Says t cells slots starts found old before limit (Err e) (joins limit fs l n o)
  close_refused {e} q = says_by (ap (joins limit fs l n) q ∙ joins_refused limit fs l n (number e.refusal) e.place) (says_refused refl)

  pub close_rest : {r : Result Part TextRefusal} {k next : ℕ} {b : Built} → o ≡ good k next b → Says t cells slots starts found old before limit r (joins limit fs l n (good k next b)) → Says t cells slots starts found old before limit r (joins limit fs l n o)
  close_rest e h = says_by (ap (joins limit fs l n) e) h

-- ---- the loop that makes them

-- The rows below level l are made, the last of them in the part r.
pub record Unwinding (t old : List ℕ) (fs : List Item) (used texts limit low top : ℕ) (o : Outcome) (cells slots starts found : List ℕ) (r : Part) (l : ℕ) : Type 0 where
  pub from : low ≤ l
  pub order : l ≤ top
  pub is : o ≡ joins limit fs l (top - l) (good r.row.0 r.next (built_in t cells starts r.counts.used r.counts.texts))
  pub holds : Holds t cells slots starts found r.counts.used r.counts.texts limit
  pub inside : r.row.0 < r.counts.used
  pub behind : 0 < r.next
  pub more : texts ≤ r.counts.texts
  pub grown : used ≤ r.counts.used
  pub same : (k : ℕ) → k < texts → get_or starts k 0 ≡ get_or old k 0

module _ {t old : List ℕ} {fs : List Item} {used texts limit low top : ℕ} {o : Outcome} {cells slots starts found : List ℕ} {r : Part} {l : ℕ} (u : Unwinding t old fs used texts limit low top o cells slots starts found r l) where
  -- the row of one more
  next_row : l < top → o ≡ joins limit fs (l + 1) (top - (l + 1)) (finish limit (node_row (frame_symbol fs l) ((key_rows (frame_symbol fs l) (frame_key fs l) ++ frame_value fs l ∷ []) ++ r.row.0 ∷ [])) r.next (built_in t cells starts r.counts.used r.counts.texts))
  next_row h = u.is ∙ joins_first limit fs l top h (good r.row.0 r.next (built_in t cells starts r.counts.used r.counts.texts))

  pub unwind_refused : l < top → {e : TextRefusal} → finish limit (node_row (frame_symbol fs l) ((key_rows (frame_symbol fs l) (frame_key fs l) ++ frame_value fs l ∷ []) ++ r.row.0 ∷ [])) r.next (built_in t cells starts r.counts.used r.counts.texts) ≡ refused (number e.refusal) e.place → {cs ss st fd : List ℕ} → Says t cs ss st fd old texts limit (Err e) o
  unwind_refused h {e} q = says_by (next_row h ∙ ap (joins limit fs (l + 1) (top - (l + 1))) q ∙ joins_refused limit fs (l + 1) (top - (l + 1)) (number e.refusal) e.place) (says_refused refl)

  pub unwind_more : l < top → {cs ss st fd : List ℕ} {p : Part} → Said t cs ss st fd starts r.counts.texts limit (finish limit (node_row (frame_symbol fs l) ((key_rows (frame_symbol fs l) (frame_key fs l) ++ frame_value fs l ∷ []) ++ r.row.0 ∷ [])) r.next (built_in t cells starts r.counts.used r.counts.texts)) p.row p.next p.counts.used p.counts.texts → Unwinding t old fs used texts limit low top o cs ss st fd p (l + 1)
  unwind_more h {cs} {ss} {st} {fd} {p} s =
      record {
        from = omega (arith, u.from);
        order = omega (arith, h);
        is = next_row h ∙ ap (joins limit fs (l + 1) (top - (l + 1))) s.outcome;
        holds = s.holds;
        inside = s.inside;
        behind = s.behind;
        more = omega (arith, u.more, s.more);
        grown = let g = finish_grows limit _ r.next (built_in t cells starts r.counts.used r.counts.texts) s.outcome in omega (arith, g, as_many t cells starts r.counts.used r.counts.texts, as_many t cs st p.counts.used p.counts.texts, u.grown);
        same = λ k q. s.same k (omega (arith, q, u.more)) ∙ u.same k q;
      }

  pub unwind_done : top ≤ l → Says t cells slots starts found old texts limit (Ok r) o
  unwind_done h =
      says_by (u.is ∙ joins_none limit fs l top h (good r.row.0 r.next (built_in t cells starts r.counts.used r.counts.texts)))
      (says_read
      (record {
        used = r.counts.used;
        texts = r.counts.texts;
        answer = refl;
        is = refl;
        holds = u.holds;
        inside = u.inside;
        behind = u.behind;
        more = u.more;
        same = u.same;
      }))

-- ---- an item's frame is made

-- what was to be read is made of its row and of those above it
pub frame_made : (limit : ℕ) (fs gs hs : List Item) (l top symbol key v : ℕ) → l < top → Same l fs gs → FrameSet gs hs l symbol key v → (x : Outcome) → joins limit fs (l + 1) (top - (l + 1)) (joined limit symbol (key_rows symbol key ++ v ∷ []) x) ≡ joins limit hs l (top - l) x
frame_made limit fs gs hs l top symbol key v h same set x =
    joins_same limit fs hs (l + 1) (top - (l + 1)) (same_then (same_from l (l + 1) (omega arith) same) set.above) (joined limit symbol (key_rows symbol key ++ v ∷ []) x)
    ∙ ap (joins limit hs (l + 1) (top - (l + 1))) (λ i. joined limit (sym set.symbol_is i) (key_rows (sym set.symbol_is i) (sym set.key_is i) ++ sym set.value_is i ∷ []) x)
    ∙ sym (joins_first limit hs l top h x)

-- one frame more, below the others
pub framed_more : (fs gs hs : List Item) (l top symbol key v : ℕ) → length hs ≡ length fs → Same l fs gs → FrameSet gs hs l symbol key v → (symbol ≡ text_leaf → ⊥) → key < unused → {used n : ℕ} → used ≤ n → (symbol ≡ other → key < n) → v < n → Framed fs used (l + 1) top → Framed hs n l top
framed_more fs gs hs l top symbol key v size same set plain k {used} {n} grown own m f =
    record {
      order = omega (arith, f.order);
      room = omega (arith, size, f.room);
      each = λ j lo hi. at_or_above j lo hi (ltb l j) refl;
    }
  where
    here : Frame hs n l
    here = record { plain = λ e. plain (sym set.symbol_is ∙ e); key = omega (arith, set.key_is, k); own = λ e. let o = own (sym set.symbol_is ∙ e) in omega (arith, set.key_is, o); value = omega (arith, set.value_is, m) }

    above : (j : ℕ) → l < j → j < top → Frame hs n j
    above j a hi =
        let e = f.each j (omega (arith, a)) hi in
        let was : frame_at hs j ≡ frame_at fs j = set.above.at j (omega (arith, a)) ∙ same.at j (omega (arith, a)) in
        let symbol_was : frame_symbol hs j ≡ frame_symbol fs j = ap (λ (x : Item). x.symbol) was in
        let key_was : frame_key hs j ≡ frame_key fs j = ap (λ (x : Item). x.key.0) was in
        let value_was : frame_value hs j ≡ frame_value fs j = ap (λ (x : Item). x.value.0) was in
        record {
          plain = λ q. e.plain (sym symbol_was ∙ q);
          key = omega (arith, key_was, e.key);
          own = λ q. let o = e.own (sym symbol_was ∙ q) in omega (arith, key_was, o, grown);
          value = omega (arith, value_was, e.value, grown);
        }

    at_or_above : (j : ℕ) → l ≤ j → j < top → (b : Bool) → ltb l j ≡ b → Frame hs n j
    at_or_above j lo hi true e = above j (ltb-true l j e) hi
    at_or_above j lo hi false e = let q : l ≡ j = omega (arith, ltb-false l j e, lo) in subst (Frame hs n) q here

-- there are as many rows or more once the closing mark is read
pub framed_closed : {fs : List Item} {t cs ss st fd old : List ℕ} {before limit y z lo hi : ℕ} {j : row_number.Row} {next : ℕ} (cells starts : List ℕ) (n m lim mark leaf at : ℕ) → Said t cs ss st fd old before limit (close_at lim t mark leaf at (built_in t cells starts n m)) j next y z → Framed fs n lo hi → Framed fs y lo hi
framed_closed {t = t} {cs = cs} {st = st} {y = y} {z = z} cells starts n m lim mark leaf at s f =
    let g = close_grows lim t mark leaf at (built_in t cells starts n m) s.outcome in
    let grown : n ≤ y = omega (arith, g, as_many t cells starts n m, as_many t cs st y z) in
    record {
      order = f.order;
      room = f.room;
      each = λ l a b. let e = f.each l a b in record { plain = e.plain; key = e.key; own = λ q. let o = e.own q in omega (arith, o, grown); value = omega (arith, e.value, grown) };
    }
