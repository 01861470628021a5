-- 24 tag by tag: the cells of the steps passed are the tag's places in their memories. Assumes nothing.
use mathlib.Core.Path.{◌≡◌, refl, sym, ap, ◌∙◌}
use mathlib.Core.Logic.{◌↔◌}
use mathlib.Core.List.{List, map}
use mathlib.Core.Bool.{Bool, true, false, ◌&&◌, cond}
use Prim.Native.Nat.{ℕ, suc, ◌+◌, ◌<◌, ◌≤◌}
use native.Mathlib.Omega.{arith}
use borrow.Author.Count.{below_more}
use borrow.Author.Rules.{rules}
use lib.Dec.{T}
use lib.ListN.{length, get_or, set, length-set, length-replicate}
use lib.Seq.{get_or-set_same, get_or-set_other}
use Rattle.model.specs.Limits.{max_steps, unused}
use Rattle.model.specs.Lists.{all_below}
use Rattle.model.specs.Automaton.{Automaton, state_at, bit?}
use Rattle.model.specs.Annotation.{places_agree, joined_place}
use Rattle.model.specs.Written.{Step, step_at, rule_at, rule_of}
use Rattle.model.specs.WrittenTest.{one_row?}
use Rattle.model.specs.ByTag.{all_joined, all_agree?, child_places, places_below, tag_clear?, one_row_by_tag?}
use Rattle.model.proofs.Members.{map_same}
use Rattle.model.proofs.Below.{Passed, passed_none, passed_more, passed_all, stopped}
use Rattle.model.proofs.ByTag.{place_of, place_at, by_tag}
use Rattle.document.specs.Rows.{used}
use Rattle.runs.specs.declared.memories.Place.{Place}
use Rattle.runs.specs.declared.memories.Tags.{Tags}
use Rattle.runs.specs.Steps.{places_in, decode_steps}
use Rattle.runs.specs.Memories.{untagged, Placed, Fitted, Noted, AllJoined, Left}
use Rattle.runs.proofs.Reading.{step_at_lem}
use Rattle.runs.proofs.Joining.{cond_none, left_is}
use Rattle.std.specs.Prelude.{Option, Some, None}
use Rattle.std.proofs.lemmas.Option.{cond_some}

-- ---- one tag

-- after the steps below i: their cells, and that none of them clashes
pub record Tracked (A : Automaton) (run : List Step) (n k : ℕ) (cells : List ℕ) (i : ℕ) : Type 0 where
  pub places : (j : ℕ) → j < i → get_or cells j 0 ≡ place_of A run k j
  pub passed : Passed (tag_clear? A run k) (length run) n i

-- the same for each set of whose steps the tags are noted
pub record Tracking (run : List Step) (n k : ℕ) (notes : List Tags) (before cells : List ℕ) (i : ℕ) : Type 0 where
  pub inside : i ≤ n
  pub room : n ≤ length before
  pub long : length cells ≡ length before
  pub tracked : (A : Automaton) → Noted A run n notes → Tracked A run n k cells i

-- .. and step i leaves of the tag what the definition says; none where it clashes
pub record Stepped (run : List Step) (n k : ℕ) (notes : List Tags) (before cells : List ℕ) (i : ℕ) (l : Option Place) : Type 0 where
  pub so_far : Tracking run n k notes before cells i
  pub below : i < n
  pub leaves : (A : Automaton) → Noted A run n notes → l ≡ cond (tag_clear? A run k i) (Some (record { 0 = place_of A run k i })) None

module _ (lent : List ℕ) (n k : ℕ) (notes : List Tags) (before : List ℕ) (p : Placed (decode_steps lent) n) where
  abbrev run : List Step
  run = decode_steps lent

  pub tracking_none : n ≤ length before → Tracking (decode_steps lent) n k notes before before 0
  tracking_none l = record {
    inside = omega arith;
    room = l;
    long = refl;
    tracked = λ A m. record { places = λ j z. absurd (omega arith); passed = passed_none (tag_clear? A run k) (length run) n p.steps };
  }

  pub row_fits : (i r : ℕ) → i < n → r ≡ (step_at (decode_steps lent) i).row → r < unused
  row_fits i r l e = rw e (p.rows i l)

  -- step i is on row r, its child steps' places are joined to j, and the tags t of its rule and state make l of that
  module _ (cells : List ℕ) (i : ℕ) (h : Tracking (decode_steps lent) n k notes before cells i) (below : i < n) (a r : ℕ) (t : Tags) (j l : Option Place) (ea : a ≡ i) (et : t ≡ get_or notes a untagged) (er : r ≡ (step_at (decode_steps lent) i).row) (ej : AllJoined (map (λ c. get_or cells c 0) (used (places_in lent i))) j) (el : Left j t.forgotten t.carried r k l) where
    module _ (A : Automaton) (noted : Noted A (decode_steps lent) n notes) where
      children : map (λ c. get_or cells c 0) (used (places_in lent i)) ≡ child_places run (places_below A run k i) i
      children =
          ap (λ (s : Step). map (λ c. get_or cells c 0) s.steps) (sym (step_at_lem lent i (omega (arith, p.steps))))
          ∙ map_same (λ c. get_or cells c 0) (λ c. get_or (places_below A run k i) c 0) (step_at run i).steps
          (λ c ic. let low = p.lower i below c ic in (h.tracked A noted).places c low ∙ sym (place_at A run k i c low))

      forgets_is : t.forgotten ≡ (rule_of A run i).forget
      forgets_is = ap (λ (x : Tags). x.forgotten) (et ∙ ap (λ (x : ℕ). get_or notes x untagged) ea) ∙ noted.forgotten i below

      carries_is : t.carried ≡ (state_at A (rule_of A run i).target).mask
      carries_is = ap (λ (x : Tags). x.carried) (et ∙ ap (λ (x : ℕ). get_or notes x untagged) ea) ∙ noted.carried i below

      abbrev xs : List ℕ
      xs = child_places run (places_below A run k i) i

      joined_is : j ≡ cond (all_agree? 0 xs) (Some (record { 0 = all_joined 0 xs })) None
      joined_is = ej ∙ ap (λ (ys : List ℕ). cond (all_agree? 0 ys) (Some (record { 0 = all_joined 0 ys })) None) children

      leaves_is : l ≡ cond (tag_clear? A run k i) (Some (record { 0 = place_of A run k i })) None
      leaves_is =
          left_is (all_agree? 0 xs) (all_joined 0 xs) j l t.forgotten t.carried r k joined_is el
          ∙ (λ z. cond (all_agree? 0 xs && places_agree (cond (bit? (forgets_is z) k) 0 (all_joined 0 xs)) (cond (bit? (carries_is z) k) (suc (er z)) 0)) (Some (record { 0 = joined_place (cond (bit? (forgets_is z) k) 0 (all_joined 0 xs)) (cond (bit? (carries_is z) k) (suc (er z)) 0) })) None)

    pub stepped : Stepped (decode_steps lent) n k notes before cells i l
    stepped = record { so_far = h; below = below; leaves = leaves_is }

  module _ (cells : List ℕ) (i : ℕ) (l : Option Place) (s : Stepped (decode_steps lent) n k notes before cells i l) where
    pub tracking_more : (q : Place) (a v : ℕ) → l ≡ Some q → a ≡ i → v ≡ q.0 → Tracking (decode_steps lent) n k notes before (set cells a v) (i + 1)
    tracking_more q a v e ea ev =
        let h = s.so_far in
        rw (ea, ev)
        (record {
          inside = omega (arith, s.below);
          room = h.room;
          long = length-set cells i q.0 ∙ h.long;
          tracked = λ A noted.
              let (t, w) = cond_some (tag_clear? A run k i) (record { 0 = place_of A run k i }) q (sym (s.leaves A noted) ∙ e) in
              record {
                places = below_more (λ c. get_or (set cells i q.0) c 0 ≡ place_of A run k c) i (λ c m. get_or-set_other cells i c q.0 0 (λ s. omega arith) ∙ (h.tracked A noted).places c m)
                    (get_or-set_same cells i q.0 0 (omega (arith, h.long, h.room, s.below)) ∙ sym (ap (λ (p : Place). p.0) w));
                passed = passed_more (tag_clear? A run k) (length run) n i true (h.tracked A noted).passed s.below (sym t) refl;
              };
        })

    pub clashed : l ≡ None → (A : Automaton) → Noted A (decode_steps lent) n notes → false ≡ all_below (length (decode_steps lent)) (tag_clear? A (decode_steps lent) k)
    clashed e A noted =
        let t = cond_none (tag_clear? A run k i) (record { 0 = place_of A run k i }) (sym e ∙ s.leaves A noted) in
        stopped (tag_clear? A run k) (length run) n i false (s.so_far.tracked A noted).passed s.below (sym t) refl

  pub tracked_all : (cells : List ℕ) (i : ℕ) → Tracking (decode_steps lent) n k notes before cells i → n ≤ i → (A : Automaton) → Noted A (decode_steps lent) n notes → true ≡ all_below (length (decode_steps lent)) (tag_clear? A (decode_steps lent) k)
  tracked_all cells i h l A noted = passed_all (tag_clear? A run k) (length run) n i (h.tracked A noted).passed l

pub ruleset tracking = (tracking_none, row_fits, tracked_all, rules)

-- ---- what is noted of the steps below i

pub record Noting (A : Automaton) (run : List Step) (n w : ℕ) (notes : List Tags) (i : ℕ) : Type 0 where
  pub inside : i ≤ n
  pub room : n ≤ w
  pub wide : length notes ≡ w
  pub noted : Noted A run i notes

module _ (A : Automaton) (run : List Step) (n : ℕ) where
  pub noting_none : (notes : List Tags) → n ≤ length notes → Noting A run n (length notes) notes 0
  noting_none notes room = record { inside = omega arith; room = room; wide = refl; noted = record { carried = λ j z. absurd (omega arith); forgotten = λ j z. absurd (omega arith) } }

  -- one note more
  note_more : (part : Tags → ℕ) (f : ℕ → ℕ) (notes : List Tags) (i : ℕ) (v : Tags) → i < length notes → ((j : ℕ) → j < i → part (get_or notes j untagged) ≡ f j) → part v ≡ f i → (j : ℕ) → j < i + 1 → part (get_or (set notes i v) j untagged) ≡ f j
  note_more part f notes i v l h e =
      below_more (λ j. part (get_or (set notes i v) j untagged) ≡ f j) i (λ j m. ap part (get_or-set_other notes i j v untagged (λ s. omega arith)) ∙ h j m)
      (ap part (get_or-set_same notes i v untagged l) ∙ e)

  module _ (w : ℕ) (notes : List Tags) (i : ℕ) (h : Noting A run n w notes i) (b : i < n) where
    -- the rule is u, leading to q, with the tags m, and forgets f
    pub noting_more : (a u q m f : ℕ) → a ≡ i → u ≡ (step_at run i).rule → q ≡ (rule_of A run i).target → m ≡ (state_at A q).mask → f ≡ (rule_at A u).forget → Noting A run n w (set notes a (record { carried = m; forgotten = f })) (i + 1)
    noting_more a u q m f ea eu eq em ef =
        let v : Tags = record { carried = m; forgotten = f } in
        rw ea
        (record {
          inside = omega arith;
          room = h.room;
          wide = length-set notes i v ∙ h.wide;
          noted = record {
            carried = note_more (λ t. t.carried) (λ j. (state_at A (rule_of A run j).target).mask) notes i v (omega (arith, h.wide, h.room)) h.noted.carried (em ∙ ap (λ (p : ℕ). (state_at A p).mask) eq);
            forgotten = note_more (λ t. t.forgotten) (λ j. (rule_of A run j).forget) notes i v (omega (arith, h.wide, h.room)) h.noted.forgotten (ef ∙ ap (λ (v : ℕ). (rule_at A v).forget) eu);
          };
        })

  pub noted_all : (w : ℕ) (notes : List Tags) (i : ℕ) → Noting A run n w notes i → n ≤ i → Noted A run n notes
  noted_all w notes i h b = record { carried = λ j m. h.noted.carried j (omega arith); forgotten = λ j m. h.noted.forgotten j (omega arith) }

pub ruleset noting = (noting_none, noting_more, noted_all, rules)

-- ---- all tags

-- after the tags below k: none of them clashes
pub record Clearing (A : Automaton) (run : List Step) (n tags : ℕ) (notes : List Tags) (cells : List ℕ) (k : ℕ) : Type 0 where
  pub noted : Noted A run n notes
  pub long : length cells ≡ max_steps
  pub passed : Passed (λ k. all_below (length run) (tag_clear? A run k)) A.tags tags k

module _ (A : Automaton) (run : List Step) (n tags : ℕ) (notes : List Tags) where
  pub clearing_none : (cells : List ℕ) → Noted A run n notes → length cells ≡ max_steps → tags ≡ A.tags → Clearing A run n tags notes cells 0
  clearing_none cells m l e = record { noted = m; long = l; passed = passed_none (λ k. all_below (length run) (tag_clear? A run k)) A.tags tags e }

  module _ (cells : List ℕ) (k : ℕ) (h : Clearing A run n tags notes cells k) where
    -- the answer r for tag k
    module _ (r : Bool) (l : k < tags) (e : (A : Automaton) → Noted A run n notes → r ≡ all_below (length run) (tag_clear? A run k)) where
      pub clearing_more : (cells' : List ℕ) → length cells' ≡ length cells → r ≡ true → Clearing A run n tags notes cells' (k + 1)
      clearing_more cells' w t = record { noted = h.noted; long = w ∙ h.long; passed = passed_more (λ k. all_below (length run) (tag_clear? A run k)) A.tags tags k r h.passed l (e A h.noted) t }

      pub tag_clashes : r ≡ false → false ≡ one_row_by_tag? A run
      tag_clashes t = stopped (λ k. all_below (length run) (tag_clear? A run k)) A.tags tags k r h.passed l (e A h.noted) t

    pub all_clear : tags ≤ k → true ≡ one_row_by_tag? A run
    all_clear l = passed_all (λ k. all_below (length run) (tag_clear? A run k)) A.tags tags k h.passed l

pub ruleset clearing = (clearing_none, clearing_more, tag_clashes, all_clear, length-replicate, rules)

same_test : (a b : Bool) → T a ↔ T b → a ≡ b
same_test true true h = refl
same_test true false h = absurd (h.0 tt)
same_test false true h = absurd (h.1 tt)
same_test false false h = refl

module _ (A : Automaton) (run : List Step) (n : ℕ) (f : Fitted A run n) where
  pub by_tags : (r : Bool) → r ≡ one_row_by_tag? A run → r ≡ one_row? A run
  by_tags r e = e ∙ sym (same_test (one_row? A run) (one_row_by_tag? A run) (by_tag A run f.table f.each))

  pub no_tags : A.tags ≡ 0 → true ≡ one_row? A run
  unfolding all_below
  no_tags e = by_tags true (ap (λ (m : ℕ). all_below m (λ k. all_below (length run) (tag_clear? A run k))) (sym e))
