-- A search from a memory that was tried finds nothing new: what is found there has the same annotations whatever the children, and all of them are known. Assumes nothing.
use mathlib.Core.Path.{◌≡◌, refl, sym, ap, ◌∙◌, subst}
use mathlib.Core.Logic.{◌⊎◌, inl, inr}
use mathlib.Core.List.Memᴰ.{head as here}
use mathlib.Core.List.Memᴰ.{tail as there}
use mathlib.Core.List.{List, [], ◌∷◌, ◌++◌, map, Memᴰ as In}
use mathlib.Core.Bool.{Bool, true, false, cond}
use Prim.Native.Nat.{ℕ, zero, suc, ◌+◌, ◌-◌, ◌<◌, ◌≤◌}
use native.Mathlib.Omega.{arith}
use lib.ListN.{get_or, set}
use Rattle.std.specs.Prelude.{Some}
use Rattle.model.specs.Lists.{any, concat_map, only}
use Rattle.model.specs.Annotation.{Memory, Annotation, annotation, agree?, joined, eq_annotation}
use Rattle.model.proofs.Members.{T_true, any_in, eq_annotation_refl, add_new_known, add_new_new}
use Rattle.membership.specs.Cells.{memory_of, without, annotations_in}
use Rattle.judging.specs.Index.{Indexed}
use Rattle.membership.specs.Entries.{Entry, annotations_of, entries_in, add_entry, add_entries}
use Rattle.judging.specs.Entries.{Grown}
use Rattle.membership.specs.Search.{span, no_annotation, choosable?}
use Rattle.judging.specs.Search.{tags_in, arity_in, base_in, room_in, low_in, high_in, row_asked, rule_asked, target_asked, forget_asked, state_asked, chosen, found}
use Rattle.judging.specs.Tried.{slots, stamp_in, tried_in, stamp_of, SlotIs, Stands, Kept, Fresh, Tried}
use Rattle.membership.proofs.Adding.{Ext, ext_same, ext_entries, same_annotations}
use Rattle.membership.proofs.Storing.{entries_annotations}
use Rattle.membership.proofs.Listing.{add_is}
use Rattle.membership.specs.declared.table.Plan.{Plan}
use Rattle.judging.specs.declared.search.Want.{Want}
use Rattle.judging.specs.declared.tried.Slot.{Slot}

-- what is known already is not added
adds_nothing : (xs known : List Entry) → ((a : Annotation) → In a (annotations_of xs) → In a (annotations_of known)) → add_entries known xs ≡ known
unfolding add_entries add_entry
adds_nothing [] known h = refl
adds_nothing (x ∷ xs) known h =
    let k = (T_true (any (eq_annotation x.annotation) (annotations_of known))).0 (any_in (eq_annotation x.annotation) (h x.annotation (here refl)) (eq_annotation_refl x.annotation)) in
    ap (λ b. add_entries (cond b known (known ++ x ∷ [])) xs) k ∙ adds_nothing xs known (λ a m. h a (there m))

-- what is added is known then, and so is what was known
adds_all : (xs known : List Entry) (a : Annotation) → In a (annotations_of xs) → In a (annotations_of (add_entries known xs))
adds_all xs known a m = subst (In a) (sym (add_is xs known)) (add_new_new (annotations_of xs) (annotations_of known) m)

adds_keep : (xs known : List Entry) (a : Annotation) → In a (annotations_of known) → In a (annotations_of (add_entries known xs))
adds_keep xs known a m = subst (In a) (sym (add_is xs known)) (add_new_known (annotations_of xs) (annotations_of known) m)

-- the annotations found do not depend on the children chosen before
map_concat : {A B : Type 0} (h : A → B) (f g : ℕ → List A) (l : List ℕ) → ((j : ℕ) → map h (f j) ≡ map h (g j)) → map h (concat_map f l) ≡ map h (concat_map g l)
map_concat h f g [] e = refl
map_concat h f g (j ∷ l) e = map_append (f j) (concat_map f l) ∙ cc (e j, map_concat h f g l e) ∙ sym (map_append (g j) (concat_map g l))
  where
    map_append : (xs ys : List _) → map h (xs ++ ys) ≡ map h xs ++ map h ys
    map_append [] ys = refl
    map_append (x ∷ xs) ys = ap (λ l. h x ∷ l) (map_append xs ys)

module _ (known : List Annotation) (plan : Plan) (asked : Want) (own : Memory) where
  pub found_annotations : (left : ℕ) (m : Memory) (c d : List ℕ) → annotations_of (found known plan asked own left m c) ≡ annotations_of (found known plan asked own left m d)
  unfolding found
  found_annotations zero m c d = go (agree? left own)
    where
      left : Memory
      left = without (tags_in plan) (forget_asked asked) m

      last : List ℕ → Entry
      last c = record { annotation = annotation (row_asked asked) (target_asked asked) (joined left own); rule = rule_asked asked; children = c }

      go : (b : Bool) → annotations_of (only b (last c ∷ [])) ≡ annotations_of (only b (last d ∷ []))
      go true = refl
      go false = refl
  found_annotations (suc left) m c d = map_concat (λ (e : Entry). e.annotation) (step c) (step d) (span (low_in plan p) (high_in plan p - low_in plan p)) (λ j. one (choosable? (state_asked asked p) m (get_or known j no_annotation)) (next c j) (next d j) (found_annotations left (joined m (get_or known j no_annotation).memory) (set c p j) (set d p j)))
    where
      p : ℕ
      p = arity_in plan - suc left

      step : List ℕ → ℕ → List Entry
      step c = chosen known p (state_asked asked p) (λ x c. found known plan asked own left x c) m c

      next : List ℕ → ℕ → List Entry
      next c j = found known plan asked own left (joined m (get_or known j no_annotation).memory) (set c p j)

      one : (b : Bool) (xs ys : List Entry) → annotations_of xs ≡ annotations_of ys → annotations_of (only b xs) ≡ annotations_of (only b ys)
      one true xs ys e = e
      one false xs ys e = refl

module _ (plan : Plan) (asked : Want) (own : List ℕ) where
  abbrev tags : ℕ
  tags = tags_in plan

  abbrev from : List ℕ → ℕ → Memory → List ℕ → List Entry
  from work left m c = found (annotations_in (tags_in plan) work (base_in plan)) plan asked (memory_of (tags_in plan) own) left m c

  -- before a rule
  pub tried_fresh : (work : List ℕ) (n : ℕ) (cells : List Slot) (i r : ℕ) → row_asked asked ≡ i → rule_asked asked ≡ r → i < 1024 → r < 1024 → Fresh i r cells → Tried plan asked own work n cells
  tried_fresh work n cells i r ei er li lr f =
      record {
        few_rows = omega arith;
        few_rules = omega arith;
        latest = λ s l. let x = f s l in omega arith;
        known = λ s left l e. let x = f s l in let z : ⊥ = omega arith in absurd z;
      }

  -- as entries are added
  pub tried_grows : (work work' : List ℕ) (n m : ℕ) (cells : List Slot) (xs : List Entry) → Tried plan asked own work n cells → base_in plan ≤ n → n ≤ m → entries_in (tags_in plan) work' m ≡ add_entries (entries_in (tags_in plan) work n) xs → Tried plan asked own work' m cells
  tried_grows work work' n m cells xs t lb ln e =
      let front = ext_entries xs (entries_in (tags_in plan) work n) in
      let whole = subst (Ext (entries_in (tags_in plan) work' m)) e (ext_same (entries_in (tags_in plan) work' m)) in
      let same = same_annotations (tags_in plan) work work' n m (add_entries (entries_in (tags_in plan) work n) xs) front whole (base_in plan) lb (omega arith) in
      let all : annotations_of (add_entries (entries_in (tags_in plan) work n) xs) ≡ annotations_in (tags_in plan) work' m = ap annotations_of (sym e) ∙ entries_annotations (tags_in plan) work' m in
      record {
        few_rows = t.few_rows;
        few_rules = t.few_rules;
        latest = t.latest;
        known = λ s left l st a h.
            subst (In a) all (adds_keep xs (entries_in (tags_in plan) work n) a (subst (In a) (sym (entries_annotations (tags_in plan) work n)) (t.known s left l st a (subst (λ (k : List Annotation). In a (annotations_of (found k plan asked (memory_of (tags_in plan) own) left (tried_in (tags_in plan) cells s) []))) same h))));
      }

  -- where the memory stands in a slot
  pub tried_before : (work heads : List ℕ) (n left : ℕ) (m : Memory) (c : List ℕ) (cells : List Slot) → Tried plan asked own work n cells → n ≤ room_in plan → Indexed (tags_in plan) (room_in plan) work heads n → Stands (stamp_of (row_asked asked) (rule_asked asked) left) (tags_in plan) m cells → Grown n (room_in plan) (tags_in plan) (add_entries (entries_in (tags_in plan) work n) (from work left m c)) work heads (Some n)
  tried_before work heads n left m c cells t l index st =
      let e = adds_nothing (from work left m c) (entries_in (tags_in plan) work n) (λ a h. subst (In a) (sym (entries_annotations (tags_in plan) work n))
      (t.known st.slot left st.inside st.stamped a (subst (λ z. In a (annotations_of (from work left z []))) (sym st.holds) (subst (In a) (found_annotations (annotations_in (tags_in plan) work (base_in plan)) plan asked (memory_of (tags_in plan) own) left m c []) h)))) in
      record { more = omega arith; count = l; held = sym e; indexed = index }

  -- the memory is put in a slot, once all that is found from it is added
  pub tried_kept : (work₀ work : List ℕ) (n m left : ℕ) (memory c : List ℕ) (cells cells' : List Slot) → Tried plan asked own work m cells → tags_in plan ≤ 16 → left ≤ 4 → base_in plan ≤ n → n ≤ m → entries_in (tags_in plan) work m ≡ add_entries (entries_in (tags_in plan) work₀ n) (from work₀ left (memory_of (tags_in plan) memory) c) → Kept cells (stamp_of (row_asked asked) (rule_asked asked) left) memory cells' → Tried plan asked own work m cells'
  tried_kept work₀ work n m left memory c cells cells' t few ll lb ln e k =
      record {
        few_rows = t.few_rows;
        few_rules = t.few_rules;
        latest = λ s l. late s l (k s l);
        known = λ s left' l st a h. all s left' l st a h (k s l);
      }
    where
      late : (s : ℕ) → s < slots → SlotIs (stamp_in cells s) (λ tags. tried_in tags cells s) cells' s ⊎ SlotIs (stamp_of (row_asked asked) (rule_asked asked) left) (λ tags. memory_of tags memory) cells' s → stamp_in cells' s < stamp_of (row_asked asked) (suc (rule_asked asked)) 0
      late s l (inl o) = let x = t.latest s l in let y = o.stamped in omega arith
      late s l (inr o) = let y = o.stamped in omega arith

      all : (s left' : ℕ) → s < slots → stamp_in cells' s ≡ stamp_of (row_asked asked) (rule_asked asked) left' → (a : Annotation) → In a (annotations_of (from work left' (tried_in (tags_in plan) cells' s) [])) → SlotIs (stamp_in cells s) (λ tags. tried_in tags cells s) cells' s ⊎ SlotIs (stamp_of (row_asked asked) (rule_asked asked) left) (λ tags. memory_of tags memory) cells' s → In a (annotations_in (tags_in plan) work m)
      all s left' l st a h (inl o) = t.known s left' l (sym o.stamped ∙ st) a (subst (λ z. In a (annotations_of (from work left' z []))) (o.holds (tags_in plan) few) h)
      all s left' l st a h (inr o) =
          let y = o.stamped in
          let same_left : left' ≡ left = omega arith in
          let xs = from work₀ left (memory_of (tags_in plan) memory) c in
          let front = ext_entries xs (entries_in (tags_in plan) work₀ n) in
          let whole = subst (Ext (entries_in (tags_in plan) work m)) e (ext_same (entries_in (tags_in plan) work m)) in
          let same = same_annotations (tags_in plan) work₀ work n m (add_entries (entries_in (tags_in plan) work₀ n) xs) front whole (base_in plan) lb (omega arith) in
          let h₁ = subst (λ z. In a (annotations_of (from work left' z []))) (o.holds (tags_in plan) few) h in
          let h₂ = subst (λ z. In a (annotations_of (from work z (memory_of (tags_in plan) memory) []))) same_left h₁ in
          let h₃ = subst (λ (k : List Annotation). In a (annotations_of (found k plan asked (memory_of (tags_in plan) own) left (memory_of (tags_in plan) memory) []))) same h₂ in
          let h₄ = subst (In a) (found_annotations (annotations_in (tags_in plan) work₀ (base_in plan)) plan asked (memory_of (tags_in plan) own) left (memory_of (tags_in plan) memory) [] c) h₃ in
          subst (In a) (ap annotations_of (sym e) ∙ entries_annotations (tags_in plan) work m) (adds_all xs (entries_in (tags_in plan) work₀ n) a h₄)

  -- after a rule: no slot has a later stamp
  pub tried_after : (work : List ℕ) (n : ℕ) (cells : List Slot) (i r : ℕ) → row_asked asked ≡ i → rule_asked asked ≡ r → Tried plan asked own work n cells → Fresh i (r + 1) cells
  tried_after work n cells i r ei er t s l = let x = t.latest s l in omega arith
