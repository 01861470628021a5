-- Items one after the other: at the loop's head those before are in their frames. Assumes nothing.
use mathlib.Core.Path.{◌≡◌, refl, sym, ap, subst, ◌∙◌}
use mathlib.Core.Bool.{Bool, true, false, ◌||◌}
use mathlib.Core.List.{List, [], ◌∷◌, ◌++◌}
use Rattle.std.specs.Prelude.{Result, Ok, Err}
use Prim.Native.Nat.{ℕ, zero, suc, ◌+◌, ◌-◌, ◌<◌, ◌≤◌}
use native.Mathlib.Omega.{arith}
use borrow.Author.Tests.{eqb-true, eqb-false}
use lib.Dec.{eqb}
use lib.ListN.{length, get_or, drop, replicate}
use lib.Seq.{drop-drop}
use Rattle.base.specs.Text.{byte_at}
use Rattle.document.specs.declared.rows.Row as row_number
use Rattle.jsontext.specs.Spaces.{space_end}
use Rattle.jsonrows.specs.Grammar.{Setting, Built, Outcome, refused, joined, close_at, value}
use Rattle.jsonrows.specs.State.{key_rows, built_in, Holds, Says, says_refused}
use Rattle.jsonrows.specs.Seen.{Seen, Flagged}
use Rattle.jsonrows.specs.Items.{mark_of, leaf_of, rest_of, list_at, items_at, item_at, plain_at}
use Rattle.jsonrows.specs.Frames.{joins, Framed, Same, FrameSet}
use Rattle.jsonrows.specs.Heads.{Headed, HeadSays, head_says, head_says_no}
use Rattle.base.specs.Refusals.{number}
use Rattle.base.specs.declared.refusal.Refusal.TheVariants.{TextLevel}
use Rattle.base.specs.declared.refusal.TextRefusal.{TextRefusal}
use Rattle.jsonrows.specs.declared.members.KeyPart.{KeyPart}
use Rattle.jsonrows.specs.declared.tables.Item.{Item}
use Rattle.jsonrows.specs.declared.rows.Part.{Part}
use Rattle.jsonrows.proofs.Holding.{says_by, says_since, Said}
use Rattle.jsonrows.proofs.Growing.{as_many, value_grows}
use Rattle.jsonrows.proofs.ItemWays.{seen_kept, item_refused, item_last, item_rest}
use Rattle.jsonrows.proofs.Walking.{empty_object, some_members, empty_array, some_elements, plain_one}
use Rattle.jsonrows.proofs.Flags.{flagged_none}
use Rattle.jsonrows.proofs.CycleWays.{seen_none, no_object}
use Rattle.jsonrows.proofs.Framing.{same_from, same_then, joins_refused, joins_none, frame_made, framed_more}

-- what agrees from a place on agrees from a later one on
drop_further : (k n : ℕ) (a b : List ℕ) → k ≤ n → drop k a ≡ drop k b → drop n a ≡ drop n b
drop_further k n a b le e =
    let z : n ≡ k + (n - k) = omega (arith, le) in
    ap (λ m. drop m a) z ∙ sym (drop-drop (n - k) k a) ∙ ap (drop (n - k)) e ∙ drop-drop (n - k) k b ∙ sym (ap (λ m. drop m b) z)

-- an answer with the facts that it hands over
module _ {object : Bool} {S : Setting} {t cells slots starts found pending : List ℕ} {flags : List Bool} {old : List ℕ} {before lo hi : ℕ} {seen : List (List ℕ)} {at : ℕ} {b : Built} {r : Result KeyPart TextRefusal} where
  pub headed : HeadSays object S t cells slots starts found pending flags old before lo hi seen at b r → {k : KeyPart} → r ≡ Ok k → Headed object S t cells slots starts found pending flags old before lo hi seen at b k.symbol k.row k.next k.counts.used k.counts.texts
  headed (head_says {p = x} e h) {k} q =
      let f : ◌≡◌ {A = Result KeyPart TextRefusal} (Ok x) (Ok k) = sym e ∙ q in
      let z : x ≡ k = cc in
      subst (λ (y : KeyPart). Headed object S t cells slots starts found pending flags old before lo hi seen at b y.symbol y.row y.next y.counts.used y.counts.texts) z h
  headed (head_says_no {e = w} e o h) {k} q = let f : ◌≡◌ {A = Result KeyPart TextRefusal} (Err w) (Ok k) = sym e ∙ q in let z : ⊥ = cc in absurd z

  pub headed_no : HeadSays object S t cells slots starts found pending flags old before lo hi seen at b r → {w : TextRefusal} → r ≡ Err w → (object ≡ true) × (list_at object lo S t seen at b ≡ refused (number w.refusal) w.place)
  headed_no (head_says {p = x} e h) {w} q = let f : ◌≡◌ {A = Result KeyPart TextRefusal} (Ok x) (Err w) = sym e ∙ q in let z : ⊥ = cc in absurd z
  headed_no (head_says_no {e = x} e o h) {w} q =
      let f : ◌≡◌ {A = Result KeyPart TextRefusal} (Err x) (Err w) = sym e ∙ q in
      let z : x ≡ w = cc in
      (o, h ∙ ap (λ (y : TextRefusal). refused (number y.refusal) y.place) z)

-- Items up to level l + 1 are in their frames, and what was to be read is made of them and of what stands at place i; or a value stands there alone.
pub record Walk (alone object : Bool) (S : Setting) (t : List ℕ) (top : ℕ) (o : Outcome) (old pending-was : List ℕ) (frames-was : List Item) (before : ℕ) (cells slots starts found pending : List ℕ) (frames : List Item) (flags : List Bool) (used texts l i : ℕ) : Type 0 where
  pub seen : List (List ℕ)
  pub known : object ≡ true → Seen S.keys t starts pending texts (l + 1) top seen
  pub flagged : object ≡ true → Flagged S.keys flags seen
  pub order : l < top
  pub is : o ≡ joins S.limit frames (l + 1) (top - (l + 1)) (items_at alone object l S t seen i (built_in t cells starts used texts))
  pub framed : alone ≡ false → Framed frames used (l + 1) top
  pub first : alone ≡ true → l + 1 ≡ top
  pub holds : Holds t cells slots starts found used texts S.limit
  pub more : before ≤ texts
  pub same : (k : ℕ) → k < before → get_or starts k 0 ≡ get_or old k 0
  pub kept : drop top pending ≡ drop top pending-was
  pub above : Same top frames-was frames
  pub room : length frames ≡ length frames-was

-- before the first
pub walk_start : (alone object : Bool) (S : Setting) (t : List ℕ) (level at : ℕ) (pending : List ℕ) (frames : List Item) {cells slots starts found : List ℕ} {used texts : ℕ} → Holds t cells slots starts found used texts S.limit → (alone ≡ false → level < length frames)
    → length S.keys ≤ 56 → Walk alone object S t (level + 1) (items_at alone object level S t [] at (built_in t cells starts used texts)) starts pending frames texts cells slots starts found pending frames (replicate 64 false) used texts level at
walk_start alone object S t level at pending frames {cells} {slots} {starts} {found} {used} {texts} h room few =
    record {
      seen = [];
      known = λ q. seen_none S.keys t starts pending texts (level + 1) (level + 1) (omega arith);
      flagged = λ q. flagged_none S.keys few;
      order = omega arith;
      is = sym (joins_none S.limit frames (level + 1) (level + 1) (omega arith) (items_at alone object level S t [] at (built_in t cells starts used texts)));
      framed = λ a. record { order = omega arith; room = let r = room a in omega (arith, r); each = λ l lo hi. absurd (omega (arith, lo, hi)) };
      first = λ a. refl;
      holds = h;
      more = omega arith;
      same = λ k l. refl;
      kept = refl;
      above = record { at = λ j k. refl };
      room = refl;
    }

module _ {alone object : Bool} {S : Setting} {t : List ℕ} {top : ℕ} {o : Outcome} {old pending-was : List ℕ} {frames-was : List Item} {before : ℕ} {cells slots starts found pending : List ℕ} {frames : List Item} {flags : List Bool} {used texts l i : ℕ} (w : Walk alone object S t top o old pending-was frames-was before cells slots starts found pending frames flags used texts l i) where
  items_are : alone ≡ false → items_at alone object l S t w.seen i (built_in t cells starts used texts) ≡ list_at object l S t w.seen i (built_in t cells starts used texts)
  items_are a = ap (λ x. items_at x object l S t w.seen i (built_in t cells starts used texts)) a

  value_is : alone ≡ true → o ≡ value l S t i (built_in t cells starts used texts)
  value_is a =
      w.is ∙ joins_none S.limit frames (l + 1) top (let e = w.first a in omega (arith, e)) (items_at alone object l S t w.seen i (built_in t cells starts used texts))
      ∙ ap (λ x. items_at x object l S t w.seen i (built_in t cells starts used texts)) a

  not_true : (alone ≡ true → ⊥) → alone ≡ false
  not_true n = go alone n
    where
      go : (a : Bool) → (a ≡ true → ⊥) → a ≡ false
      go true m = absurd (m refl)
      go false m = refl

  -- what lies above is as it was
  pub walk_kept : (ps : List ℕ) → drop (l + 1) ps ≡ drop (l + 1) pending → drop top ps ≡ drop top pending-was
  walk_kept ps e = drop_further (l + 1) top ps pending (omega (arith, w.order)) e ∙ w.kept

  pub walk_kept_value : (ps more : List ℕ) → drop l more ≡ drop l ps → drop (l + 1) ps ≡ drop (l + 1) pending → drop top more ≡ drop top pending-was
  walk_kept_value ps more e f = drop_further l top more ps (omega (arith, w.order)) e ∙ walk_kept ps f

  pub walk_above : {fs : List Item} → Same l frames fs → Same top frames-was fs
  walk_above inner = same_then w.above (same_from l top (omega (arith, w.order)) inner)

  pub walk_above_frame : {fs gs : List Item} {symbol key v : ℕ} → Same l frames fs → FrameSet fs gs l symbol key v → Same top frames-was gs
  walk_above_frame inner set = same_then (walk_above inner) (same_from (l + 1) top (omega (arith, w.order)) set.above)

  -- a member is no value alone
  pub walk_many : (alone ≡ true → object ≡ false) → object ≡ true → alone ≡ false
  walk_many single is_object = not_true (λ q. no_object (sym (single q) ∙ is_object))

  -- the key is refused
  pub walk_no_key : (alone ≡ true → object ≡ false) → {x : TextRefusal} → (object ≡ true) × (list_at object l S t w.seen i (built_in t cells starts used texts) ≡ refused (number x.refusal) x.place) → {cs ss st fd : List ℕ} → Says t cs ss st fd old before S.limit (Err x) o
  walk_no_key single {x} (is_object, e) =
      let a = walk_many single is_object in
      says_by (w.is ∙ ap (joins S.limit frames (l + 1) (top - (l + 1))) (items_are a ∙ e) ∙ joins_refused S.limit frames (l + 1) (top - (l + 1)) (number x.refusal) x.place) (says_refused refl)

  -- the key was read: what was to be read, by the value behind it
  module _ (single : alone ≡ true → object ≡ false) {cs ss st fd ps : List ℕ} {fl : List Bool} {symbol : ℕ} {key : row_number.Row} {first n m : ℕ} (h : Headed object S t cs ss st fd ps fl starts texts l top w.seen i (built_in t cells starts used texts) symbol key first n m) where
    alone_value : alone ≡ true → o ≡ value l S t first (built_in t cs st n m)
    alone_value a =
        let (e, f) = h.nothing (single a) in
        value_is a ∙ sym (λ j. value l S t (e j) (f j))

    item_is : alone ≡ false → o ≡ joins S.limit frames (l + 1) (top - (l + 1)) (item_at object l S t h.seen_now symbol key.0 first (built_in t cs st n m))
    item_is a = w.is ∙ ap (joins S.limit frames (l + 1) (top - (l + 1))) (items_are a ∙ h.is)

    same_all : (k : ℕ) → k < before → get_or st k 0 ≡ get_or old k 0
    same_all k q = h.same k (omega (arith, q, w.more)) ∙ w.same k q

    more_all : before ≤ m
    more_all = omega (arith, w.more, h.more)

    pub walk_refused : {x : TextRefusal} → value l S t first (built_in t cs st n m) ≡ refused (number x.refusal) x.place → {cells' slots' starts' found' : List ℕ} → Says t cells' slots' starts' found' old before S.limit (Err x) o
    walk_refused {x} e = says_by (go alone refl) (says_refused refl)
      where
        go : (a : Bool) → alone ≡ a → o ≡ refused (number x.refusal) x.place
        go true q = alone_value q ∙ e
        go false q = item_is q ∙ ap (joins S.limit frames (l + 1) (top - (l + 1))) (item_refused object l S t h.seen_now symbol key.0 first (built_in t cs st n m) e) ∙ joins_refused S.limit frames (l + 1) (top - (l + 1)) (number x.refusal) x.place

    -- the value was read
    module _ {cells' slots' starts' found' : List ℕ} {v : row_number.Row} {next n' m' : ℕ} (s : Said t cells' slots' starts' found' st m S.limit (value l S t first (built_in t cs st n m)) v next n' m') where
      pub walk_alone : alone ≡ true → {r x : Result Part TextRefusal} → r ≡ x → Says t cells' slots' starts' found' st m S.limit r (value l S t first (built_in t cs st n m)) → Says t cells' slots' starts' found' old before S.limit x o
      walk_alone a e says = says_by (alone_value a) (says_since old before more_all same_all (subst (λ y. Says t cells' slots' starts' found' st m S.limit y (value l S t first (built_in t cs st n m))) e says))

      pub walk_since : {r : Result Part TextRefusal} {x : Outcome} {c d e f : List ℕ} → Says t c d e f starts' m' S.limit r x → Says t c d e f old before S.limit r x
      walk_since says = says_since old before (omega (arith, more_all, s.more)) (λ k q. s.same k (omega (arith, q, more_all)) ∙ same_all k q) says

      -- its frame is made
      module _ (many : alone ≡ true → ⊥) {fs gs : List Item} (inner : Same l frames fs) (set : FrameSet fs gs l symbol key.0 v.0) (e : ℕ) (ends : e ≡ space_end t next) where
        made : (x : Outcome) → item_at object l S t h.seen_now symbol key.0 first (built_in t cs st n m) ≡ joined S.limit symbol (key_rows symbol key.0 ++ v.0 ∷ []) x → o ≡ joins S.limit gs l (top - l) x
        made x q = item_is (not_true many) ∙ ap (joins S.limit frames (l + 1) (top - (l + 1))) q ∙ frame_made S.limit frames fs gs l top symbol key.0 v.0 w.order inner set x

        pub walk_framed : length gs ≡ length frames → Framed gs n' l top
        walk_framed size =
            let g = value_grows S t l first (built_in t cs st n m) s.outcome in
            let k : n ≤ n' = omega (arith, g, as_many t cs st n m, as_many t cells' starts' n' m') in
            let j : used ≤ n' = omega (arith, k, h.grown, as_many t cells starts used texts) in
            framed_more frames fs gs l top symbol key.0 v.0 size inner set h.plain h.inside j (λ q. let o = h.own q in omega (arith, o, k)) s.inside (w.framed (not_true many))

        -- nothing follows
        pub walk_last : (byte_at t e ≡ 44 → ⊥) → (mark leaf : ℕ) → mark ≡ mark_of object → leaf ≡ leaf_of object → o ≡ joins S.limit gs l (top - l) (close_at S.limit t mark leaf e (built_in t cells' starts' n' m'))
        walk_last c mark leaf p q = made (close_at S.limit t mark leaf e (built_in t cells' starts' n' m')) (item_last object l S t h.seen_now symbol key.0 first (built_in t cs st n m) s.outcome e ends c mark leaf p q)

        -- a comma follows
        module _ (comma : byte_at t e ≡ 44) (j : ℕ) (from : j ≡ space_end t (e + 1)) where
          rest_is : (x : Outcome) → rest_of object l S t h.seen_now j (built_in t cells' starts' n' m') ≡ x → o ≡ joins S.limit gs l (top - l) x
          rest_is x q = made x (item_rest object l S t h.seen_now symbol key.0 first (built_in t cs st n m) s.outcome e ends comma j from q)

          pub walk_deep : l ≡ 0 → Says t cells' slots' starts' found' old before S.limit (Err (record { refusal = TextLevel; place = j })) o
          walk_deep z = says_by (rest_is (refused 64 j) (ap (λ k. rest_of object k S t h.seen_now j (built_in t cells' starts' n' m')) z ∙ go object) ∙ joins_refused S.limit gs l (top - l) 64 j) (says_refused refl)
            where
              go : (b : Bool) → rest_of b 0 S t h.seen_now j (built_in t cells' starts' n' m') ≡ refused 64 j
              go true = refl
              go false = refl

          rest_below : (k : ℕ) → l ≡ suc k → rest_of object l S t h.seen_now j (built_in t cells' starts' n' m') ≡ list_at object k S t h.seen_now j (built_in t cells' starts' n' m')
          rest_below k z = ap (λ x. rest_of object x S t h.seen_now j (built_in t cells' starts' n' m')) z ∙ go object
            where
              go : (b : Bool) → rest_of b (suc k) S t h.seen_now j (built_in t cells' starts' n' m') ≡ list_at b k S t h.seen_now j (built_in t cells' starts' n' m')
              go true = refl
              go false = refl

          pub walk_more : (l ≡ 0 → ⊥) → {ps' : List ℕ} → drop l ps' ≡ drop l ps → drop (l + 1) ps ≡ drop (l + 1) pending → length gs ≡ length frames
              → Walk alone object S t top o old pending-was frames-was before cells' slots' starts' found' ps' gs fl n' m' (l - 1) j
          walk_more z {ps'} kept since room =
              let back : l - 1 + 1 ≡ l = omega (arith, nonzero) in
              let down : l ≡ suc (l - 1) = omega (arith, nonzero) in
              record {
                seen = h.seen_now;
                known = λ q. subst (λ k. Seen S.keys t starts' ps' m' k top h.seen_now) (sym back) (seen_kept l (omega (arith, few)) s.more s.same kept (h.known q));
                flagged = h.flagged;
                order = omega (arith, w.order);
                is = rest_is (list_at object (l - 1) S t h.seen_now j (built_in t cells' starts' n' m')) (rest_below (l - 1) down) ∙ (λ k. joins S.limit gs (sym back k) (top - sym back k) (list_at object (l - 1) S t h.seen_now j (built_in t cells' starts' n' m'))) ∙ ap (joins S.limit gs (l - 1 + 1) (top - (l - 1 + 1))) (sym (ap (λ x. items_at x object (l - 1) S t h.seen_now j (built_in t cells' starts' n' m')) (not_true many)));
                framed = λ a. subst (λ k. Framed gs n' k top) (sym back) (walk_framed room);
                first = λ a. absurd (many a);
                holds = s.holds;
                more = omega (arith, more_all, s.more);
                same = λ k q. s.same k (omega (arith, q, more_all)) ∙ same_all k q;
                kept = walk_kept_value ps ps' kept since;
                above = walk_above_frame inner set;
                room = room ∙ w.room;
              }
            where
              nonzero : 0 < l
              nonzero = go l z
                where
                  go : (k : ℕ) → (k ≡ 0 → ⊥) → 0 < k
                  go zero y = absurd (y refl)
                  go (suc k) y = omega arith

              few : m ≤ 1024
              few = omega (arith, h.holds.few, h.holds.ready.built.few)

-- ---- a value that holds items

either : (x y : Bool) → (x || y) ≡ true → x ≡ false → y ≡ true
either true y e f = no_object (sym f)
either false y e f = e

neither : (x y : Bool) → (x || y) ≡ false → (x ≡ false) × (y ≡ false)
neither true y e = no_object (sym e)
neither false y e = (refl, e)

module _ (S : Setting) (t : List ℕ) (at : ℕ) (b : Built) (l : ℕ) (deep : l ≡ 0 → ⊥) (c : ℕ) (first : c ≡ byte_at t at) where
  -- an opening mark
  module _ (opens : (eqb c 123 || eqb c 91) ≡ true) (i : ℕ) (from : i ≡ space_end t (at + 1)) where
    pub open_empty : (mark leaf : ℕ) → mark ≡ mark_of (eqb c 123) → leaf ≡ leaf_of (eqb c 123) → byte_at t i ≡ mark → value l S t at b ≡ close_at S.limit t mark leaf i b
    open_empty mark leaf p q e = go (eqb c 123) refl ∙ (λ k. close_at S.limit t (sym p k) (sym q k) i b)
      where
        go : (o : Bool) → eqb c 123 ≡ o → value l S t at b ≡ close_at S.limit t (mark_of (eqb c 123)) (leaf_of (eqb c 123)) i b
        go true f = empty_object S t at b l deep (sym first ∙ eqb-true c 123 f) i from (e ∙ p ∙ ap mark_of f) ∙ ap (λ x. close_at S.limit t (mark_of x) (leaf_of x) i b) (sym f)
        go false f = empty_array S t at b l deep (λ z. eqb-false c 123 f (first ∙ z)) (sym first ∙ eqb-true c 91 (either (eqb c 123) (eqb c 91) opens f)) i from (e ∙ p ∙ ap mark_of f) ∙ ap (λ x. close_at S.limit t (mark_of x) (leaf_of x) i b) (sym f)

    pub open_items : (mark : ℕ) → mark ≡ mark_of (eqb c 123) → (byte_at t i ≡ mark → ⊥) → value l S t at b ≡ items_at false (eqb c 123) (l - 1) S t [] i b
    open_items mark p n = go (eqb c 123) refl
      where
        go : (o : Bool) → eqb c 123 ≡ o → value l S t at b ≡ items_at false (eqb c 123) (l - 1) S t [] i b
        go true f = some_members S t at b l deep (sym first ∙ eqb-true c 123 f) i from (λ z. n (z ∙ sym (p ∙ ap mark_of f))) ∙ ap (λ x. items_at false x (l - 1) S t [] i b) (sym f)
        go false f = some_elements S t at b l deep (λ z. eqb-false c 123 f (first ∙ z)) (sym first ∙ eqb-true c 91 (either (eqb c 123) (eqb c 91) opens f)) i from (λ z. n (z ∙ sym (p ∙ ap mark_of f))) ∙ ap (λ x. items_at false x (l - 1) S t [] i b) (sym f)

  pub open_none : (eqb c 123 || eqb c 91) ≡ false → value l S t at b ≡ plain_at S.limit t at b
  open_none e = let (f, g) = neither (eqb c 123) (eqb c 91) e in plain_one S t at b l deep (λ z. eqb-false c 123 f (first ∙ z)) (λ z. eqb-false c 91 g (first ∙ z))

-- the byte inside the text that opens items
pub opening_byte : (c : ℕ) → (eqb c 123 || eqb c 91) ≡ true → 0 < c
opening_byte c e = go (eqb c 123) refl
  where
    go : (o : Bool) → eqb c 123 ≡ o → 0 < c
    go true f = let q = eqb-true c 123 f in omega (arith, q)
    go false f = let q = eqb-true c 91 (either (eqb c 123) (eqb c 91) e f) in omega (arith, q)
