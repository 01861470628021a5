-- The loop over one place's window in the search: what it knows at its head, a choice that is skipped, one that is taken, and the end. Assumes nothing.
use mathlib.Core.Path.{◌≡◌, refl, sym, ap, ◌∙◌, subst}
use mathlib.Core.List.{List, []}
use mathlib.Core.Bool.{Bool, true, false, ◌&&◌}
use Prim.Native.Nat.{ℕ, zero, suc, ◌+◌, ◌*◌, ◌-◌, ◌%◌, ◌<◌, ◌≤◌}
use native.Mathlib.Omega.{arith}
use native.Mathlib.Nat.{le_trans}
use native.Mathlib.Numerals.{add-one}
use borrow.Author.Tests.{ne_eqb}
use lib.ListN.{length, get_or, set}
use Rattle.std.specs.Prelude.{Option, Some, None, IfSome}
use Rattle.model.specs.Lists.{concat_map, only}
use Rattle.model.specs.Annotation.{Memory, Annotation, agree?, joined}
use Rattle.membership.specs.Cells.{memory_of, cell_of, memory_in, annotation_in, annotations_in}
use Rattle.judging.specs.Cells.{Short, ShortIn}
use Rattle.membership.specs.Entries.{Entry, entries_in, add_entries}
use Rattle.judging.specs.Entries.{Held, Grown}
use Rattle.membership.specs.Search.{span, no_annotation, choosable?, JoinedWith}
use Rattle.judging.specs.Search.{tags_in, arity_in, base_in, room_in, low_in, high_in, row_asked, rule_asked, state_asked, leaving, chosen, found, Ready, class_of, Windows, Alike}
use Rattle.judging.specs.Chains.{class_in, FirstWith, Opened, Chained}
use Rattle.judging.specs.Tried.{stamp_of, Stands, Kept, Tried}
use Rattle.judging.proofs.Places.{join_short}
use Rattle.membership.proofs.Adding.{Ext, ext_entries, annotation_at_lem, same_entry, same_annotations}
use Rattle.judging.proofs.Children.{alike_same, alike_more, alike_set, found_alike}
use Rattle.judging.proofs.Again.{tried_before, tried_grows, tried_kept}
use Rattle.judging.proofs.States.{class_state, opened_same, chained_same}
use Rattle.judging.proofs.Turning.{Turning, turn_start, turn_front, turn_skip, turn_jump, turn_in, turn_full, turn_end}
use Rattle.membership.specs.declared.table.Plan.{Plan}
use Rattle.judging.specs.declared.search.Want.{Want}
use Rattle.judging.specs.declared.tried.Slot.{Slot}

-- no place left
pub found_none : (known : List Annotation) (plan : Plan) (asked : Want) (own : Memory) (left : ℕ) (m : Memory) (children : List ℕ) → left ≡ 0 → found known plan asked own left m children ≡ leaving plan asked own m children
unfolding found
found_none known plan asked own left m children e = rw e refl

-- the first of the places left
found_some : (known : List Annotation) (plan : Plan) (asked : Want) (own : Memory) (left : ℕ) (m : Memory) (children : List ℕ) → 0 < left → found known plan asked own left m children ≡ concat_map (chosen known (arity_in plan - left) (state_asked asked (arity_in plan - left)) (λ x c. found known plan asked own (left - 1) x c) m children) (span (low_in plan (arity_in plan - left)) (high_in plan (arity_in plan - left) - low_in plan (arity_in plan - left)))
unfolding found
found_some known plan asked own zero m children l = let z : ⊥ = omega arith in absurd z
found_some known plan asked own (suc left) m children l = let e : suc left - 1 ≡ left = omega arith in rw e refl

-- an annotation in another state makes nothing
other_state : (known : List Annotation) (p q : ℕ) (next : Memory → List ℕ → List Entry) (m : Memory) (c : List ℕ) (j : ℕ) → ((get_or known j no_annotation).state ≡ q → ⊥) → chosen known p q next m c j ≡ []
other_state known p q next m c j h = ap (λ b. only (b && agree? m (get_or known j no_annotation).memory) (next (joined m (get_or known j no_annotation).memory) (set c p j))) (ne_eqb (get_or known j no_annotation).state q h)

module _ (work₀ slots₀ own : List ℕ) (plan : Plan) (asked : Want) (left n : ℕ) (memory children : List ℕ) where
  abbrev known : List Annotation
  known = annotations_in (tags_in plan) work₀ (base_in plan)

  abbrev place : ℕ
  place = arity_in plan - left

  abbrev next : Memory → List ℕ → List Entry
  next x c = found known plan asked (memory_of (tags_in plan) own) (left - 1) x c

  abbrev step : ℕ → List Entry
  step = chosen known place (state_asked asked place) next (memory_of (tags_in plan) memory) children

  abbrev list : List Entry
  list = add_entries (entries_in (tags_in plan) work₀ n) (found known plan asked (memory_of (tags_in plan) own) left (memory_of (tags_in plan) memory) children)

  -- no place left, and a memory that was tried
  abbrev Searched : List ℕ → List ℕ → List ℕ → List Slot → Option ℕ → Type 0
  Searched work slots c cells r = Grown n (room_in plan) (tags_in plan) list work slots r × Alike place (arity_in plan) children c × IfSome r (λ m. Tried plan asked own work m cells)

  pub none_left : Ready plan work₀ slots₀ n → (cells : List Slot) → Tried plan asked own work₀ n cells → left ≡ 0 → (work slots : List ℕ) (r : Option ℕ) → Grown n (room_in plan) (tags_in plan) (add_entries (entries_in (tags_in plan) work₀ n) (leaving plan asked (memory_of (tags_in plan) own) (memory_of (tags_in plan) memory) children)) work slots r → Searched work slots children cells r
  none_left ready cells t e work slots r g =
      let g' = subst (λ z. Grown n (room_in plan) (tags_in plan) (add_entries (entries_in (tags_in plan) work₀ n) z) work slots r) (sym (found_none known plan asked (memory_of (tags_in plan) own) left (memory_of (tags_in plan) memory) children e)) g in
      (g', alike_same place (arity_in plan) children, still r g)
    where
      still : (r : Option ℕ) → Grown n (room_in plan) (tags_in plan) (add_entries (entries_in (tags_in plan) work₀ n) (leaving plan asked (memory_of (tags_in plan) own) (memory_of (tags_in plan) memory) children)) work slots r → IfSome r (λ m. Tried plan asked own work m cells)
      still None g = tt
      still (Some m) g = tried_grows plan asked own work₀ work n m cells _ t ready.known g.more g.held

  pub tried_already : Ready plan work₀ slots₀ n → (cells : List Slot) → Tried plan asked own work₀ n cells → Stands (stamp_of (row_asked asked) (rule_asked asked) left) (tags_in plan) (memory_of (tags_in plan) memory) cells → Searched work₀ slots₀ children cells (Some n)
  tried_already ready cells t st =
      (tried_before plan asked own work₀ slots₀ n left (memory_of (tags_in plan) memory) children cells t ready.count ready.indexed st, alike_same place (arity_in plan) children, t)

  -- with the slots, the children c and the tried memories in the lent arrays, m entries in the work space and the choice j next
  pub record Searching (work slots c : List ℕ) (cells : List Slot) (m j : ℕ) : Type 0 where
    pub ready : Ready plan work₀ slots₀ n
    pub within : left ≤ arity_in plan
    pub some : 0 < left
    pub alike : Alike place (arity_in plan) children c
    pub tried : Tried plan asked own work m cells
    pub turning : Turning step (high_in plan place) n (room_in plan) (tags_in plan) (length work₀) list work slots m j

  pub start : Ready plan work₀ slots₀ n → left ≤ arity_in plan → (left ≡ 0 → ⊥) → (cells : List Slot) → Tried plan asked own work₀ n cells → Searching work₀ slots₀ children cells n (low_in plan place)
  start r l other cells t =
      let some : 0 < left = omega (arith, other) in
      record {
        ready = r;
        within = l;
        some = some;
        alike = alike_same place (arity_in plan) children;
        tried = t;
        turning = turn_start step (high_in plan place) n (room_in plan) (tags_in plan) (length work₀) list work₀ slots₀ (low_in plan place) r.count refl
            (ap (add_entries (entries_in (tags_in plan) work₀ n)) (sym (found_some known plan asked (memory_of (tags_in plan) own) left (memory_of (tags_in plan) memory) children some))) r.indexed;
      }

  module _ (work slots c : List ℕ) (cells : List Slot) (m j : ℕ) (s : Searching work slots c cells m j) where
    pub next_ready : Ready plan work slots m
    next_ready =
        let r = s.ready in
        let t = s.turning in
        record {
          few_tags = r.few_tags;
          few_children = r.few_children;
          known = le_trans r.known t.more;
          count = t.count;
          few = r.few;
          space = subst (λ z. room_in plan * 32 ≤ z) (sym t.space) r.space;
          order = r.order;
          windows = r.windows;
          indexed = t.indexed;
        }

    -- the place is one of four, and there is one less left after it
    pub in_place : (place < 4) × (suc place ≡ arity_in plan - (left - 1)) × (left - 1 ≤ arity_in plan)
    in_place =
        let a = s.some in
        let b = s.within in
        let d = s.ready.few_children in
        (omega arith, omega arith, omega arith)

    list_front : Ext (entries_in (tags_in plan) work₀ n) list
    list_front = ext_entries (found known plan asked (memory_of (tags_in plan) own) left (memory_of (tags_in plan) memory) children) (entries_in (tags_in plan) work₀ n)

    work_front : Ext (entries_in (tags_in plan) work m) list
    work_front = turn_front step (high_in plan place) n (room_in plan) (tags_in plan) (length work₀) list work slots m j s.turning

    -- an annotation in the work space is the one that was known
    known_at : (k : ℕ) → k < base_in plan → get_or known k no_annotation ≡ annotation_in (tags_in plan) work k
    known_at k b =
        let h = s.ready.known in
        let g = s.turning.more in
        annotation_at_lem (tags_in plan) work₀ (base_in plan) k b
        ∙ sym (ap (λ (e : Entry). e.annotation) (same_entry (tags_in plan) work₀ work n m list list_front work_front k (omega arith) (omega arith)))

    -- and so is its class
    pub class_known : (k : ℕ) → k < high_in plan place → class_in work k ≡ class_of known k
    class_known k l =
        let h = s.within in
        let e = s.some in
        class_state work k (get_or known k no_annotation).state (ap (λ (a : Annotation). a.state) (sym (known_at k (le_trans l (s.ready.windows place (omega arith))))))

    module _ (l : j < high_in plan place) where
      in_window : j < base_in plan
      in_window = let h = s.within in let e = s.some in le_trans l (s.ready.windows place (omega arith))

      -- choice j is an annotation in the work space
      pub in_work : (j < 4096) × (j * 32 + 32 ≤ length work)
      in_work = let i = in_window in let r = next_ready in let k = r.known in let h = r.count in let f = r.few in let z = r.space in (omega arith, omega arith)

      -- nothing stands past the tags in its memory, nor in the memory joined with it
      pub choice_short : ShortIn (tags_in plan) work j
      choice_short = let i = in_window in let k = next_ready.known in next_ready.indexed.short j (omega arith)

      pub more_short : (x : List ℕ) → Short (tags_in plan) memory → JoinedWith work j memory x → Short (tags_in plan) x
      unfolding memory_of memory_in
      more_short x h e = join_short (tags_in plan) x (λ k. get_or memory k 0) (λ k. cell_of work j (2 + k)) (e 16 (omega arith)) h choice_short

      known_is : get_or known j no_annotation ≡ annotation_in (tags_in plan) work j
      known_is = known_at j in_window

      -- what choice j makes
      abbrev made : Bool → List Entry
      made ok = only ok (next (joined (memory_of (tags_in plan) memory) (memory_in (tags_in plan) work j)) (set children place j))

      module _ (ok : Bool) (eo : ok ≡ choosable? (state_asked asked place) (memory_of (tags_in plan) memory) (annotation_in (tags_in plan) work j)) where
        step_is : step j ≡ made ok
        step_is =
            ap (λ (a : Annotation). only (choosable? (state_asked asked place) (memory_of (tags_in plan) memory) a) (next (joined (memory_of (tags_in plan) memory) a.memory) (set children place j))) known_is
            ∙ ap made (sym eo)

        pub skip : ok ≡ false → Searching work slots c cells m (j + 1)
        skip f =
            record {
              ready = s.ready;
              within = s.within;
              some = s.some;
              alike = s.alike;
              tried = s.tried;
              turning = turn_skip step (high_in plan place) n (room_in plan) (tags_in plan) (length work₀) list work slots m j s.turning l (step_is ∙ ap made f);
            }

        module _ (y : ℕ) (x : List ℕ) (t : ok ≡ true) (ex : memory_of (tags_in plan) x ≡ joined (memory_of (tags_in plan) memory) (memory_in (tags_in plan) work j)) (ey : y ≡ j) where
          -- what the places after it hold in the array does not matter
          next_is : (z : Memory) → next z (set c place j) ≡ next z (set children place j)
          next_is z =
              let (_, e, l') = in_place in
              let h = s.within in
              let i = s.some in
              found_alike known plan asked (memory_of (tags_in plan) own) (left - 1) z (set children place j) (set c place j) l'
              (subst (λ k. Alike k (arity_in plan) (set children place j) (set c place j)) e (alike_set place (arity_in plan) j children c (omega arith) s.alike))

          step_found : found (annotations_in (tags_in plan) work (base_in plan)) plan asked (memory_of (tags_in plan) own) (left - 1) (memory_of (tags_in plan) x) (set c place y) ≡ step j
          step_found =
              let h = s.ready.known in
              let h' = s.turning.more in
              let same = same_annotations (tags_in plan) work₀ work n m list list_front work_front (base_in plan) (omega arith) (omega arith) in
              ap (λ k. found k plan asked (memory_of (tags_in plan) own) (left - 1) (memory_of (tags_in plan) x) (set c place y)) same
              ∙ ap (λ z. next z (set c place y)) ex
              ∙ ap (λ z. next (joined (memory_of (tags_in plan) memory) (memory_in (tags_in plan) work j)) (set c place z)) ey
              ∙ next_is (joined (memory_of (tags_in plan) memory) (memory_in (tags_in plan) work j))
              ∙ sym (step_is ∙ ap made t)

          children_after : (c' : List ℕ) → Alike (arity_in plan - (left - 1)) (arity_in plan) (set c place y) c' → Alike place (arity_in plan) children c'
          children_after c' a =
              let (_, e, _) = in_place in
              let h = s.within in
              let i = s.some in
              alike_more place (arity_in plan) y children c c' (omega arith) s.alike (subst (λ k. Alike k (arity_in plan) (set c place y) c') (sym e) a)

          pub again : (work' slots' c' : List ℕ) (cells' : List Slot) (m' : ℕ) → Held m (room_in plan) (tags_in plan) (add_entries (entries_in (tags_in plan) work m) (found (annotations_in (tags_in plan) work (base_in plan)) plan asked (memory_of (tags_in plan) own) (left - 1) (memory_of (tags_in plan) x) (set c place y))) work' slots' m' → Alike (arity_in plan - (left - 1)) (arity_in plan) (set c place y) c' → Tried plan asked own work' m' cells' → length work' ≡ length work → Searching work' slots' c' cells' m' (j + 1)
          again work' slots' c' cells' m' g a t' e =
              record {
                ready = s.ready;
                within = s.within;
                some = s.some;
                alike = children_after c' a;
                tried = t';
                turning = turn_in step (high_in plan place) n (room_in plan) (tags_in plan) (length work₀) list work slots m j s.turning l work' slots' m' (subst (λ z. Held m (room_in plan) (tags_in plan) (add_entries (entries_in (tags_in plan) work m) z) work' slots' m') step_found g) e;
              }

          pub full : (work' slots' c' : List ℕ) (cells' : List Slot) → room_in plan < length (add_entries (entries_in (tags_in plan) work m) (found (annotations_in (tags_in plan) work (base_in plan)) plan asked (memory_of (tags_in plan) own) (left - 1) (memory_of (tags_in plan) x) (set c place y))) → Alike (arity_in plan - (left - 1)) (arity_in plan) (set c place y) c' → Searched work' slots' c' cells' None
          full work' slots' c' cells' h a = (turn_full step (high_in plan place) n (room_in plan) (tags_in plan) (length work₀) list work slots m j s.turning l (subst (λ z. room_in plan < length (add_entries (entries_in (tags_in plan) work m) z)) step_found h), children_after c' a, tt)

    -- an annotation of another class than the one asked makes nothing, so the next of that class may follow
    pub jump : (k : ℕ) → j ≤ k → k ≤ high_in plan place → ((x : ℕ) → j ≤ x → x < k → class_of known x ≡ state_asked asked place % 256 → ⊥) → Searching work slots c cells m k
    jump k a b h =
        record {
          ready = s.ready;
          within = s.within;
          some = s.some;
          alike = s.alike;
          tried = s.tried;
          turning = turn_jump step (high_in plan place) n (room_in plan) (tags_in plan) (length work₀) list work slots m j s.turning k a b
              (λ x l l'. other_state known place (state_asked asked place) next (memory_of (tags_in plan) memory) children x (λ e. h x l l' (ap (λ q. q % 256) e)));
        }

    pub all : high_in plan place ≤ j → (cells' : List Slot) → Kept cells (stamp_of (row_asked asked) (rule_asked asked) left) memory cells' → Searched work slots c cells' (Some m)
    all l cells' k =
        let g = turn_end step (high_in plan place) n (room_in plan) (tags_in plan) (length work₀) list work slots m j s.turning l in
        let r = s.ready in
        let four : left ≤ 4 = let a = s.within in let b = r.few_children in omega arith in
        (g, s.alike, tried_kept plan asked own work₀ work n m left memory children cells cells' s.tried r.few_tags four r.known g.more g.held k)

  -- the windows in the work space before the first choice
  module _ (r : Ready plan work₀ slots₀ n) (l : left ≤ arity_in plan) (other : left ≡ 0 → ⊥) (heads links : List ℕ) (w : Windows (class_of known) plan (arity_in plan) heads links) where
    pub class_start : (k : ℕ) → k < high_in plan place → class_in work₀ k ≡ class_of known k
    class_start k h =
        class_state work₀ k (get_or known k no_annotation).state (ap (λ (a : Annotation). a.state) (sym (annotation_at_lem (tags_in plan) work₀ (base_in plan) k (le_trans h (r.windows place (omega (arith, other)))))))

    pub first_needs : (place < 4) × (low_in plan place ≤ high_in plan place) × (high_in plan place ≤ 4096) × (high_in plan place * 32 ≤ length work₀) × Opened (class_in work₀) place (low_in plan place) (high_in plan place) heads
    first_needs =
        let a : place < arity_in plan = omega (arith, other) in
        let d = r.few_children in
        let k = r.known in
        let h = r.count in
        let f = r.few in
        let z = r.space in
        let t = r.windows place a in
        (omega arith, r.order place a, omega arith, omega arith, opened_same (class_of known) (class_in work₀) (high_in plan place) (λ k h. sym (class_start k h)) place (low_in plan place) heads (w.opened place a))

  -- the choice j next is one of the class that is asked
  pub record Choosing (heads links work slots c : List ℕ) (cells : List Slot) (m j : ℕ) : Type 0 where
    pub searching : Searching work slots c cells m j
    pub windows : Windows (class_of known) plan (arity_in plan) heads links
    pub from : low_in plan place ≤ j
    pub on : j < high_in plan place → class_of known j ≡ state_asked asked place % 256

  -- the first of its class from i on, in the work space before or after what choice i - 1 made
  pub choosing : (heads links work slots c : List ℕ) (cells : List Slot) (m i : ℕ) → Searching work slots c cells m i → Windows (class_of known) plan (arity_in plan) heads links → low_in plan place ≤ i → (g : ℕ → ℕ) → ((k : ℕ) → k < high_in plan place → g k ≡ class_of known k) → (a r : ℕ) → a ≡ state_asked asked place % 256 → FirstWith g a i (high_in plan place) r → Choosing heads links work slots c cells m r
  choosing heads links work slots c cells m i s w l g e a r ea f =
      let t = f.to in
      let o = f.from in
      record {
        searching = jump work slots c cells m i s r f.from f.to (λ x b d q. f.none x b d (e x (omega arith) ∙ q ∙ sym ea));
        windows = w;
        from = omega arith;
        on = λ h. sym (e r h) ∙ f.is h ∙ ea;
      }

  pub choosing_next : (heads links work slots c : List ℕ) (cells : List Slot) (m j : ℕ) → Searching work slots c cells m (j + 1) → Windows (class_of known) plan (arity_in plan) heads links → low_in plan place ≤ j → (g : ℕ → ℕ) → ((k : ℕ) → k < high_in plan place → g k ≡ class_of known k) → (a r : ℕ) → a ≡ state_asked asked place % 256 → FirstWith g a (suc j) (high_in plan place) r → Choosing heads links work slots c cells m r
  choosing_next heads links work slots c cells m j s w l g e a r ea f = choosing heads links work slots c cells m (j + 1) s w (omega arith) g e a r ea (subst (λ k. FirstWith g a k (high_in plan place) r) (sym (add-one j)) f)

  module _ (heads links work slots c : List ℕ) (cells : List Slot) (m j : ℕ) (h : Choosing heads links work slots c cells m j) (l : j < high_in plan place) where
    pub next_needs : (high_in plan place ≤ 4096) × (high_in plan place * 32 ≤ length work) × Chained (class_in work) (low_in plan place) (high_in plan place) links × ((a : ℕ) → a ≡ state_asked asked place % 256 → class_in work j ≡ a)
    next_needs =
        let s = h.searching in
        let x = s.some in
        let y = s.within in
        let a : place < arity_in plan = omega arith in
        let r = next_ready work slots c cells m j s in
        let k = r.known in
        let t = r.count in
        let f = r.few in
        let z = r.space in
        let b = r.windows place a in
        let same = class_known work slots c cells m j s in
        (omega arith, omega arith, chained_same (class_of known) (class_in work) (high_in plan place) (λ k q. sym (same k q)) (low_in plan place) links (h.windows.chained place a), λ a e. same j l ∙ h.on l ∙ sym e)

    -- the windows are as they were, seen from what is in the work space now
    pub next_windows : Windows (class_of (annotations_in (tags_in plan) work (base_in plan))) plan (arity_in plan) heads links
    next_windows =
        let s = h.searching in
        let k = s.ready.known in
        let g = s.turning.more in
        subst (λ (a : List Annotation). Windows (class_of a) plan (arity_in plan) heads links) (sym (same_annotations (tags_in plan) work₀ work n m list (list_front work slots c cells m j s) (work_front work slots c cells m j s) (base_in plan) (omega arith) (omega arith))) h.windows
