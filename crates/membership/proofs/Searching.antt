-- The loop over one place's window in the search: what it knows at its head, a choice that is skipped, one that is taken, and the end. Assumes nothing.
use mathlib.Core.Path.{◌≡◌, refl, sym, ap, ◌∙◌, subst}
use mathlib.Core.List.{List}
use mathlib.Core.Bool.{Bool, true, false}
use Prim.Native.Nat.{ℕ, zero, suc, ◌+◌, ◌*◌, ◌-◌, ◌<◌, ◌≤◌}
use native.Mathlib.Omega.{arith}
use native.Mathlib.Nat.{le_trans}
use lib.ListN.{length, get_or, set}
use Rattle.model.specs.Lists.{concat_map, only}
use Rattle.model.specs.Annotation.{Memory, Annotation, joined}
use Rattle.membership.specs.Cells.{memory_of, memory_in, annotation_in, annotations_in}
use Rattle.membership.specs.Entries.{Entry, entries_in, add_entries, Held}
use Rattle.membership.specs.Search.{span, no_annotation, choosable?, asked_state, leaving, chosen, found, Ready}
use Rattle.membership.specs.declared.search.Want.{Want}
use Rattle.membership.proofs.Adding.{Ext, ext_entries, annotation_at_lem, same_entry, same_annotations}
use Rattle.membership.proofs.Turning.{Turning, turn_start, turn_front, turn_skip, turn_in, turn_full, turn_end}

-- no place left
pub found_none : (known : List Annotation) (want : Want) (own : Memory) (left : ℕ) (m : Memory) (children : List ℕ) → left ≡ 0 → found known want own left m children ≡ leaving want own m children
unfolding found
found_none known want own left m children e = rw e refl

-- the first of the places left
found_some : (known : List Annotation) (want : Want) (own : Memory) (left : ℕ) (m : Memory) (children : List ℕ) → 0 < left → found known want own left m children ≡ concat_map (chosen known want (want.arity - left) (λ x c. found known want own (left - 1) x c) m children) (span (get_or want.low (want.arity - left) 0) (get_or want.high (want.arity - left) 0 - get_or want.low (want.arity - left) 0))
unfolding found
found_some known want own zero m children l = let z : ⊥ = omega arith in absurd z
found_some known want own (suc left) m children l = let e : suc left - 1 ≡ left = omega arith in rw e refl

module _ (work₀ own : List ℕ) (want : Want) (left n : ℕ) (memory children : List ℕ) where
  abbrev tags : ℕ
  tags = want.tags

  abbrev known : List Annotation
  known = annotations_in want.tags work₀ want.base

  abbrev place : ℕ
  place = want.arity - left

  abbrev next : Memory → List ℕ → List Entry
  next x c = found known want (memory_of want.tags own) (left - 1) x c

  abbrev step : ℕ → List Entry
  step = chosen known want place next (memory_of want.tags memory) children

  abbrev list : List Entry
  list = add_entries (entries_in want.tags work₀ n) (found known want (memory_of want.tags own) left (memory_of want.tags memory) children)

  pub record Searching (work : List ℕ) (m j : ℕ) : Type 0 where
    pub ready : Ready want work₀ n
    pub within : left ≤ want.arity
    pub some : 0 < left
    pub turning : Turning step (get_or want.high place 0) n want.room want.tags (length work₀) list work m j

  pub start : Ready want work₀ n → left ≤ want.arity → (left ≡ 0 → ⊥) → Searching work₀ n (get_or want.low place 0)
  start r l other =
      let some : 0 < left = omega (arith, other) in
      record {
        ready = r;
        within = l;
        some = some;
        turning = turn_start step (get_or want.high place 0) n want.room want.tags (length work₀) list work₀ (get_or want.low place 0) r.count refl
            (ap (add_entries (entries_in want.tags work₀ n)) (sym (found_some known want (memory_of want.tags own) left (memory_of want.tags memory) children some))) r.indexed;
      }

  module _ (work : List ℕ) (m j : ℕ) (s : Searching work m j) where
    pub next_ready : Ready want work m
    next_ready =
        let r = s.ready in
        let t = s.turning in
        record {
          few_tags = r.few_tags;
          few_children = r.few_children;
          known = le_trans r.known t.more;
          count = t.count;
          few = r.few;
          space = subst (λ z. want.room * 32 ≤ z) (sym t.space) r.space;
          windows = r.windows;
          indexed = t.indexed;
        }

    module _ (l : j < get_or want.high place 0) where
      pub in_window : j < want.base
      in_window = let h = s.within in let e = s.some in le_trans l (s.ready.windows place (omega arith))

      list_front : Ext (entries_in want.tags work₀ n) list
      list_front = ext_entries (found known want (memory_of want.tags own) left (memory_of want.tags memory) children) (entries_in want.tags work₀ n)

      work_front : Ext (entries_in want.tags work m) list
      work_front = turn_front step (get_or want.high place 0) n want.room want.tags (length work₀) list work m j s.turning

      -- the annotation in the work space is the one that was known
      known_is : get_or known j no_annotation ≡ annotation_in want.tags work j
      known_is =
          let b = in_window in
          let h = s.ready.known in
          let g = s.turning.more in
          annotation_at_lem want.tags work₀ want.base j b
          ∙ sym (ap (λ (e : Entry). e.annotation) (same_entry want.tags work₀ work n m list list_front work_front j (omega arith) (omega arith)))

      step_is : (ok : Bool) → ok ≡ choosable? (asked_state want place) (memory_of want.tags memory) (annotation_in want.tags work j) → step j ≡ only ok (next (joined (memory_of want.tags memory) (memory_in want.tags work j)) (set children place j))
      step_is ok e =
          ap (λ (a : Annotation). only (choosable? (asked_state want place) (memory_of want.tags memory) a) (next (joined (memory_of want.tags memory) a.memory) (set children place j))) known_is
          ∙ ap (λ b. only b (next (joined (memory_of want.tags memory) (memory_in want.tags work j)) (set children place j))) (sym e)

      module _ (ok : Bool) (eo : ok ≡ choosable? (asked_state want place) (memory_of want.tags memory) (annotation_in want.tags work j)) where
        pub skip : ok ≡ false → Searching work m (j + 1)
        skip f =
            record {
              ready = s.ready;
              within = s.within;
              some = s.some;
              turning = turn_skip step (get_or want.high place 0) n want.room want.tags (length work₀) list work m j s.turning l (step_is ok eo ∙ ap (λ b. only b (next (joined (memory_of want.tags memory) (memory_in want.tags work j)) (set children place j))) f);
            }

        module _ (x c : List ℕ) (t : ok ≡ true) (ex : memory_of want.tags x ≡ joined (memory_of want.tags memory) (memory_in want.tags work j)) (ec : c ≡ set children place j) where
          step_found : found (annotations_in want.tags work want.base) want (memory_of want.tags own) (left - 1) (memory_of want.tags x) c ≡ step j
          step_found =
              let h = s.ready.known in
              let h' = s.turning.more in
              let same = same_annotations want.tags work₀ work n m list list_front work_front want.base (omega arith) (omega arith) in
              ap (λ k. found k want (memory_of want.tags own) (left - 1) (memory_of want.tags x) c) same
              ∙ ap (λ z. next z c) ex
              ∙ ap (next (joined (memory_of want.tags memory) (memory_in want.tags work j))) ec
              ∙ sym (step_is ok eo ∙ ap (λ b. only b (next (joined (memory_of want.tags memory) (memory_in want.tags work j)) (set children place j))) t)

          pub again : (work' : List ℕ) (m' : ℕ) → Held m want.room want.tags (add_entries (entries_in want.tags work m) (found (annotations_in want.tags work want.base) want (memory_of want.tags own) (left - 1) (memory_of want.tags x) c)) work' m' → length work' ≡ length work → Searching work' m' (j + 1)
          again work' m' g e =
              record {
                ready = s.ready;
                within = s.within;
                some = s.some;
                turning = turn_in step (get_or want.high place 0) n want.room want.tags (length work₀) list work m j s.turning l work' m' (subst (λ z. Held m want.room want.tags (add_entries (entries_in want.tags work m) z) work' m') step_found g) e;
              }

          pub full : want.room < length (add_entries (entries_in want.tags work m) (found (annotations_in want.tags work want.base) want (memory_of want.tags own) (left - 1) (memory_of want.tags x) c)) → want.room < length list
          full h = turn_full step (get_or want.high place 0) n want.room want.tags (length work₀) list work m j s.turning l (subst (λ z. want.room < length (add_entries (entries_in want.tags work m) z)) step_found h)

    pub all : get_or want.high place 0 ≤ j → Held n want.room want.tags list work m
    all l = turn_end step (get_or want.high place 0) n want.room want.tags (length work₀) list work m j s.turning l
