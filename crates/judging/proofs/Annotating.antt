-- The loop over the rows: the entries so far are those of the rows below, and their counts stand in the starts. Assumes nothing.
use mathlib.Core.Path.{◌≡◌, refl, sym, ap, ◌∙◌}
use mathlib.Core.List.{List}
use Prim.Native.Nat.{ℕ, zero, suc, ◌+◌, ◌*◌, ◌<◌, ◌≤◌}
use native.Mathlib.Omega.{arith}
use native.Mathlib.Numerals.{add-one}
use native.Mathlib.Decide.{ℕ_discrete}
use lib.ListN.{length, get_or, set, replicate, length-set}
use lib.Seq.{get_or-set_same, get_or-set_other}
use Rattle.model.specs.Limits.{max_rows}
use Rattle.model.specs.Table.{SoundTable}
use Rattle.model.specs.Annotation.{annotations}
use Rattle.automaton.specs.Stored.{decode}
use Rattle.automaton.specs.Check.{check_of}
use Rattle.automaton.proofs.Sound.{sound_decode}
use Rattle.document.specs.Rows.{decode_rows}
use Rattle.membership.specs.Cells.{room_of}
use Rattle.judging.specs.Index.{Indexed}
use Rattle.membership.specs.Entries.{annotations_of, entries_in}
use Rattle.judging.specs.Entries.{Held}
use Rattle.membership.specs.Listing.{entries_below}
use Rattle.membership.specs.Plan.{Starts}
use Rattle.judging.specs.Plan.{Before}
use Rattle.membership.specs.Annotated.{AllIn}
use Rattle.judging.specs.Tried.{untried, stamp_in, Fresh}
use Rattle.membership.proofs.Adding.{length_entries}
use Rattle.membership.proofs.Storing.{entries_annotations}
use Rattle.membership.proofs.Listing as listing
use Rattle.membership.proofs.ByRow.{few_children}
use Rattle.membership.proofs.Starts.{starts_rise, sourced_in}
use Rattle.judging.specs.declared.tried.Slot.{Slot}
use Rattle.membership.proofs.Annotating.{room_fits, none_in, count_all}

-- slots that hold nothing
pub fresh_slots : (n : ℕ) (memory : List ℕ) → Fresh 0 0 (replicate n (record { row = 0; stamp = 0; memory = memory }))
unfolding stamp_in
fresh_slots n memory s l = omega (arith, row_is n s, stamp_is n s)
  where
    row_is : (n s : ℕ) → (get_or (replicate n (record { row = 0; stamp = 0; memory = memory })) s untried).row ≡ 0
    row_is zero s = refl
    row_is (suc n) zero = refl
    row_is (suc n) (suc s) = row_is n s

    stamp_is : (n s : ℕ) → (get_or (replicate n (record { row = 0; stamp = 0; memory = memory })) s untried).stamp ≡ 0
    stamp_is zero s = refl
    stamp_is (suc n) zero = refl
    stamp_is (suc n) (suc s) = stamp_is n s

none_indexed : (tags room : ℕ) (work slots : List ℕ) → Indexed tags room work slots 0
none_indexed tags room work slots = record { chains = λ j l. absurd (none j l); short = λ j l. absurd (none j l) }
  where
    none : (j : ℕ) → j < 0 → ⊥
    none j l = omega arith

pub record Annotating (s cells : List ℕ) (room tags long : ℕ) (starts : List ℕ) (tried : List Slot) (work slots : List ℕ) (n i : ℕ) : Type 0 where
  pub ok : check_of s ≡ 0
  pub table : SoundTable (decode s) (decode_rows cells)
  pub tags_are : tags ≡ (decode s).tags
  pub room_is : room ≡ room_of long
  pub space : length work ≡ long
  pub wide : length starts ≡ max_rows
  pub inside : i ≤ length (decode_rows cells)
  pub count : n ≤ room
  pub entries : entries_in tags work n ≡ entries_below (decode s) (decode_rows cells) i
  pub indexed : Indexed tags room work slots n
  pub fresh : Fresh i 0 tried
  pub started : (c : ℕ) → c < i → get_or starts c 0 ≡ length (entries_below (decode s) (decode_rows cells) c)

module _ (s cells : List ℕ) (room tags long : ℕ) where
  pub annotating_start : (starts : List ℕ) (tried : List Slot) (work slots : List ℕ) → check_of s ≡ 0 → SoundTable (decode s) (decode_rows cells) → tags ≡ (decode s).tags → room ≡ room_of long → length work ≡ long → length starts ≡ max_rows → Fresh 0 0 tried → Annotating s cells room tags long starts tried work slots 0 0
  annotating_start starts tried work slots ok table et er el ew ef =
      record {
        ok = ok;
        table = table;
        tags_are = et;
        room_is = er;
        space = el;
        wide = ew;
        inside = omega arith;
        count = omega arith;
        entries = none_in tags work (decode s) (decode_rows cells);
        indexed = none_indexed tags room work slots;
        fresh = ef;
        started = λ c l. let z : ⊥ = omega arith in absurd z;
      }

  module _ (starts : List ℕ) (tried : List Slot) (work slots : List ℕ) (n i : ℕ) (h : Annotating s cells room tags long starts tried work slots n i) where
    pub room_small : (n ≤ 4096) × (room ≤ 4096) × (room * 32 ≤ length work)
    room_small = let (a, b) = room_fits long in let e = h.room_is in let c = h.count in let l = h.space in (omega arith, omega arith, omega arith)

    pub row_before : i < length (decode_rows cells) → Before (decode s) (decode_rows cells) i room tags work slots n
    row_before l =
        let (a, b, c) = room_small in
        record { row = l; tags_are = h.tags_are; count = h.count; few = b; space = c; entries = h.entries; indexed = h.indexed }

    pub row_starts : i < length (decode_rows cells) → (v : ℕ) → v ≡ n → Starts (decode s) (decode_rows cells) (set starts i v) i
    row_starts l v ev c m = go (ℕ_discrete c i)
      where
        go : Dec (c ≡ i) → get_or (set starts i v) c 0 ≡ length (entries_below (decode s) (decode_rows cells) c)
        go (yes q) =
            let few = h.table.few_rows in
            let w = h.wide in
            rw q (get_or-set_same starts i v 0 (omega arith) ∙ ev ∙ sym (length_entries tags work n) ∙ ap length h.entries)
        go (no q) = get_or-set_other starts i c v 0 q ∙ h.started c (omega (arith, q))

    module _ (l : i < length (decode_rows cells)) where
      pub annotating_more : (v : ℕ) → v ≡ n → (work' : List ℕ) (tried' : List Slot) (slots' : List ℕ) (n' : ℕ) → Held n room tags (entries_below (decode s) (decode_rows cells) (suc i)) work' slots' n' → Fresh (suc i) 0 tried' → length work' ≡ length work → Annotating s cells room tags long (set starts i v) tried' work' slots' n' (i + 1)
      annotating_more v ev work' tried' slots' n' g f' e =
          record {
            ok = h.ok;
            table = h.table;
            tags_are = h.tags_are;
            room_is = h.room_is;
            space = e ∙ h.space;
            wide = length-set starts i v ∙ h.wide;
            inside = omega arith;
            count = g.count;
            entries = g.held ∙ ap (entries_below (decode s) (decode_rows cells)) (sym (add-one i));
            indexed = g.indexed;
            fresh = λ k m. let z = f' k m in omega arith;
            started = λ c m. row_starts l v ev c (omega arith);
          }

      pub annotating_full : room < length (entries_below (decode s) (decode_rows cells) (suc i)) → room_of long < length (annotations (decode s) (decode_rows cells))
      annotating_full f =
          let e = h.room_is in
          let b = starts_rise (decode s) (decode_rows cells) (suc i) (length (decode_rows cells)) l in
          let c = count_all (decode s) (decode_rows cells) in
          omega arith

    pub annotating_all : length (decode_rows cells) ≤ i → AllIn (decode s) (decode_rows cells) (room_of long) work n
    annotating_all l =
        let q : i ≡ length (decode_rows cells) = let a = h.inside in omega arith in
        let held : entries_in (decode s).tags work n ≡ entries_below (decode s) (decode_rows cells) (length (decode_rows cells)) = ap (λ t. entries_in t work n) (sym h.tags_are) ∙ h.entries ∙ ap (entries_below (decode s) (decode_rows cells)) q in
        record {
          count = let a = h.count in let e = h.room_is in omega arith;
          held = sym (entries_annotations (decode s).tags work n) ∙ ap annotations_of held ∙ listing.entries_annotations (decode s) (decode_rows cells) (length (decode_rows cells));
          sourced = sourced_in (decode s) (decode_rows cells) (few_children (decode s) (decode_rows cells) (sound_decode s h.ok) h.table) (decode s).tags work n (length (decode_rows cells)) (omega arith) held;
        }
