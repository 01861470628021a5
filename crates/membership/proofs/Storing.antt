-- An entry written and linked: the entries are one more, the others as they were, and the index is whole. Assumes nothing.
use mathlib.Core.Path.{◌≡◌, refl, sym, ap, ◌∙◌, subst}
use mathlib.Core.Logic.{◌⊎◌, inl, inr, ⊎_elim}
use mathlib.Core.List.{List, [], ◌∷◌, ◌++◌}
use mathlib.Core.Bool.{Bool, true, false, cond}
use Prim.Native.Nat.{ℕ, ◌+◌, ◌*◌, ◌<◌, ◌≤◌}
use native.Mathlib.Omega.{arith}
use native.Mathlib.Nat.{eq-or-lt_of_le, le_of_suc-le-suc}
use native.Mathlib.Decide.{ℕ_discrete}
use native.Mathlib.Numerals.{add-one}
use borrow.Author.Rules.{rules}
use lib.ListN.{length, get_or, set, length-set, length-append}
use lib.Seq.{get_or-set_same, get_or-set_other}
use Rattle.std.specs.Prelude.{Option, Some, None}
use Rattle.model.specs.Limits.{max_children}
use Rattle.model.specs.Lists.{any, only, tab}
use Rattle.model.specs.Space.{put_at}
use Rattle.model.specs.Annotation.{Annotation, annotation, agree?, joined, eq_annotation}
use Rattle.model.proofs.Tab.{tab_snoc}
use Rattle.automaton.proofs.Parts.{tab_same, tab_is}
use Rattle.membership.specs.Cells.{memory_of, JoinedIn, without, cell_of, memory_in, annotation_in, annotations_in, rule_in, child_in}
use Rattle.membership.specs.Index.{slot_of, first_in, next_in, link_of, OnChain, newest, older, Indexed, Linked}
use Rattle.membership.specs.Entries.{Entry, annotations_of, entry_in, entries_in, add_entry, add_entries, Grown, Stored}
use Rattle.membership.specs.Search.{finished, leaving}
use Rattle.membership.specs.declared.search.Want.{Want}
use Rattle.membership.proofs.Spans.{map_tab}
use Rattle.membership.proofs.Own.{nothing_dropped}
use Rattle.membership.proofs.Copying.{Copied, copied}
use Rattle.membership.proofs.Adding.{length_entries, add_nothing, add_single}
use Rattle.membership.proofs.Chain.{link_is, chain_bound}

abbrev pub entry : ℕ → ℕ → List ℕ → ℕ → List ℕ → Entry
entry i q m r c = record { annotation = annotation i q m; rule = r; children = c }

pub entry_same : (i i' q q' : ℕ) (m m' : List ℕ) (r r' : ℕ) (c c' : List ℕ) → i ≡ i' → q ≡ q' → m ≡ m' → r ≡ r' → c ≡ c' → entry i q m r c ≡ entry i' q' m' r' c'
entry_same i i' q q' m m' r r' c c' ei eq em er ec =
    λ x. record { annotation = record { row = ei x; state = eq x; memory = em x }; rule = er x; children = ec x }

-- the cells of an entry are its first 24
pub entry_cells : (tags : ℕ) (work work' : List ℕ) (j : ℕ) → tags ≤ 16 → ((k : ℕ) → k < 24 → cell_of work' j k ≡ cell_of work j k) → entry_in tags work' j ≡ entry_in tags work j
unfolding memory_in rule_in child_in
entry_cells tags work work' j few h =
    entry_same _ _ _ _ _ _ _ _ _ _ (h 0 (omega arith)) (h 1 (omega arith))
    (tab_same tags (λ k. cell_of work' j (2 + k)) (λ k. cell_of work j (2 + k)) (λ k l. h (2 + k) (omega arith)))
    (h 19 (omega arith))
    (tab_same max_children (λ p. cell_of work' j (20 + p)) (λ p. cell_of work j (20 + p)) (λ p l. h (20 + p) (omega arith)))

-- the writes of an entry, one after the other
module _ (tags : ℕ) (w₀ w₃ w₆ : List ℕ) (n i q rule : ℕ) (memory children : List ℕ) (few : tags ≤ 16) (fits : n * 32 + 32 ≤ length w₀) (long₃ : length w₃ ≡ length w₀)
    (wide : length memory ≡ 16) (four : length children ≡ 4)
    (put₃ : w₃ ≡ put_at (set (set w₀ (n * 32) i) (n * 32 + 1) q) (n * 32 + 2) memory)
    (put₆ : w₆ ≡ put_at (set (set w₃ (n * 32 + 18) 0) (n * 32 + 19) rule) (n * 32 + 20) children) where
  memory_in_lem : Copied (set (set w₀ (n * 32) i) (n * 32 + 1) q) (n * 32 + 2) memory w₃
  memory_in_lem = copied _ (n * 32 + 2) memory w₃ (simp length-set (omega arith)) put₃

  children_in : Copied (set (set w₃ (n * 32 + 18) 0) (n * 32 + 19) rule) (n * 32 + 20) children w₆
  children_in = copied _ (n * 32 + 20) children w₆ (simp length-set (omega arith)) put₆

  outside : (x : ℕ) → (x < n * 32) ⊎ (n * 32 + 24 ≤ x) → get_or w₆ x 0 ≡ get_or w₀ x 0
  outside x (inl l) =
      children_in.below x (omega arith)
      ∙ get_or-set_other (set w₃ (n * 32 + 18) 0) (n * 32 + 19) x rule 0 (λ e. omega arith)
      ∙ get_or-set_other w₃ (n * 32 + 18) x 0 0 (λ e. omega arith)
      ∙ memory_in_lem.below x (omega arith)
      ∙ get_or-set_other (set w₀ (n * 32) i) (n * 32 + 1) x q 0 (λ e. omega arith)
      ∙ get_or-set_other w₀ (n * 32) x i 0 (λ e. omega arith)
  outside x (inr l) =
      children_in.above x (omega arith)
      ∙ get_or-set_other (set w₃ (n * 32 + 18) 0) (n * 32 + 19) x rule 0 (λ e. omega arith)
      ∙ get_or-set_other w₃ (n * 32 + 18) x 0 0 (λ e. omega arith)
      ∙ memory_in_lem.above x (omega arith)
      ∙ get_or-set_other (set w₀ (n * 32) i) (n * 32 + 1) x q 0 (λ e. omega arith)
      ∙ get_or-set_other w₀ (n * 32) x i 0 (λ e. omega arith)

  -- what stands before the mark is what was written first
  before : (x : ℕ) → x < n * 32 + 18 → get_or w₆ x 0 ≡ get_or w₃ x 0
  before x l =
      children_in.below x (omega arith)
      ∙ get_or-set_other (set w₃ (n * 32 + 18) 0) (n * 32 + 19) x rule 0 (λ e. omega arith)
      ∙ get_or-set_other w₃ (n * 32 + 18) x 0 0 (λ e. omega arith)

  pub stored : Stored tags w₀ n (entry i q (memory_of tags memory) rule children) w₆
  unfolding cell_of memory_of memory_in rule_in child_in
  stored =
      record {
        entry = entry_same _ _ _ _ _ _ _ _ _ _
            (before (n * 32 + 0) (omega arith)
            ∙ memory_in_lem.below (n * 32 + 0) (omega arith)
            ∙ get_or-set_other (set w₀ (n * 32) i) (n * 32 + 1) (n * 32 + 0) q 0 (λ e. omega arith)
            ∙ (let e : n * 32 + 0 ≡ n * 32 = omega arith in ap (λ x. get_or (set w₀ (n * 32) i) x 0) e)
            ∙ get_or-set_same w₀ (n * 32) i 0 (omega arith))
            (before (n * 32 + 1) (omega arith)
            ∙ memory_in_lem.below (n * 32 + 1) (omega arith)
            ∙ get_or-set_same (set w₀ (n * 32) i) (n * 32 + 1) q 0 (let e = length-set w₀ (n * 32) i in omega arith))
            (tab_same tags (λ k. get_or w₆ (n * 32 + (2 + k)) 0) (λ k. get_or memory k 0)
            (λ k l. let e : n * 32 + (2 + k) ≡ n * 32 + 2 + k = omega arith in before (n * 32 + (2 + k)) (omega arith) ∙ ap (λ x. get_or w₃ x 0) e ∙ memory_in_lem.inside k (omega arith)))
            (children_in.below (n * 32 + 19) (omega arith) ∙ get_or-set_same (set w₃ (n * 32 + 18) 0) (n * 32 + 19) rule 0 (let e = length-set w₃ (n * 32 + 18) 0 in omega arith))
            (tab_same max_children (λ p. get_or w₆ (n * 32 + (20 + p)) 0) (λ p. get_or children p 0)
            (λ p l. let e : n * 32 + (20 + p) ≡ n * 32 + 20 + p = omega arith in ap (λ x. get_or w₆ x 0) e ∙ children_in.inside p (omega arith))
            ∙ tab_is 0 children max_children (λ p. get_or children p 0) (sym four) (λ p l. refl));
        others = λ j k l other. outside (j * 32 + k) (apart j k l (lt_or_gt j n other));
        spare = λ k l l'. outside (n * 32 + k) (inr (omega arith));
      }
    where
      lt_or_gt : (j n : ℕ) → (j ≡ n → ⊥) → (j < n) ⊎ (n < j)
      lt_or_gt j n h = go (native.Mathlib.Decide.dec_lt j n)
        where
          go : Dec (j < n) → (j < n) ⊎ (n < j)
          go (yes l) = inl l
          go (no l) = inr (omega (arith, h, l))

      apart : (j k : ℕ) → k < 32 → (j < n) ⊎ (n < j) → (j * 32 + k < n * 32) ⊎ (n * 32 + 24 ≤ j * 32 + k)
      apart j k l (inl h) = inl (omega arith)
      apart j k l (inr h) = inr (omega arith)

-- the test for an equal annotation is over the entries' annotations
pub entries_annotations : (tags : ℕ) (work : List ℕ) (n : ℕ) → annotations_of (entries_in tags work n) ≡ annotations_in tags work n
unfolding entries_in annotations_in
entries_annotations tags work n = map_tab (λ (e : Entry). e.annotation) n (entry_in tags work)

-- an entry is written as number n and linked into its slot
module _ (tags room : ℕ) (work mid after : List ℕ) (n s : ℕ) (e : Entry) (few : tags ≤ 16) (st : Stored tags work n e mid) (li : Linked mid s n after) where
  cell_kept : (j k : ℕ) → k < 24 → (j ≡ n → ⊥) → cell_of after j k ≡ cell_of work j k
  cell_kept j k l other = li.cells j k l ∙ st.others j k (omega arith) other

  entry_kept : (j : ℕ) → (j ≡ n → ⊥) → entry_in tags after j ≡ entry_in tags work j
  entry_kept j other = entry_cells tags work after j few (λ k l. cell_kept j k l other)

  entry_new : entry_in tags after n ≡ e
  entry_new = entry_cells tags mid after n few (λ k l. li.cells n k l) ∙ st.entry

  pub entries_more : entries_in tags after (n + 1) ≡ entries_in tags work n ++ e ∷ []
  unfolding entries_in
  entries_more =
      ap (λ m. tab m (entry_in tags after)) (add-one n)
      ∙ tab_snoc n (entry_in tags after)
      ∙ ap (λ l. l ++ entry_in tags after n ∷ []) (tab_same n (entry_in tags after) (entry_in tags work) (λ j l. entry_kept j (λ q. omega arith)))
      ∙ ap (λ x. tab n (entry_in tags work) ++ x ∷ []) entry_new

  first_kept : (t : ℕ) → first_in mid t ≡ first_in work t
  unfolding first_in
  first_kept t = go (ℕ_discrete t n)
    where
      go : Dec (t ≡ n) → cell_of mid t 24 ≡ cell_of work t 24
      go (yes q) = rw q (st.spare 24 (omega arith) (omega arith))
      go (no q) = st.others t 24 (omega arith) q

  next_mid : (k : ℕ) → (k ≡ n → ⊥) → next_in mid k ≡ next_in work k
  unfolding next_in
  next_mid k other = st.others k 25 (omega arith) other

  next_kept : (k : ℕ) → (k ≡ n → ⊥) → next_in after k ≡ next_in work k
  next_kept k other = li.nexts k other ∙ next_mid k other

  moved : {j i : ℕ} → OnChain work n j i → OnChain after (n + 1) j i
  moved (newest l) = newest (omega arith)
  moved {j = j} (older {k = k} l m c) =
      let q = next_kept k (λ z. omega arith) in
      older {k = k} (omega arith) (subst (λ z. z ≤ k) (sym q) m) (subst (OnChain after (n + 1) j) (sym q) (moved c))

  pub index_more : s ≡ slot_of room e.annotation → Indexed tags room work n → Indexed tags room after (n + 1)
  unfolding Indexed
  index_more es index j l = ⊎_elim new old (eq-or-lt_of_le (le_of_suc-le-suc (rw add-one at l)))
    where
      new : j ≡ n → OnChain after (n + 1) j (first_in after (slot_of room (annotation_in tags after j)))
      new q =
          subst (λ z. OnChain after (n + 1) z (first_in after (slot_of room (annotation_in tags after z)))) (sym q)
          (subst (OnChain after (n + 1) n) (sym li.first ∙ ap (first_in after) (es ∙ ap (λ (x : Entry). slot_of room x.annotation) (sym entry_new))) (newest (omega arith)))

      chained : (t : ℕ) → OnChain work n j (first_in work t) → Dec (t ≡ s) → OnChain after (n + 1) j (first_in after t)
      chained t c (yes q) =
          let b = chain_bound work n c in
          let f : next_in after n ≡ first_in work t = li.next ∙ ap (link_of n) (first_kept s ∙ ap (first_in work) (sym q)) ∙ link_is n (first_in work t) b in
          subst (OnChain after (n + 1) j) (sym (ap (first_in after) q ∙ li.first)) (older {k = n} (omega arith) (subst (λ z. z ≤ n) (sym f) b) (subst (OnChain after (n + 1) j) (sym f) (moved c)))
      chained t c (no q) = subst (OnChain after (n + 1) j) (sym (li.firsts t q ∙ first_kept t)) (moved c)

      old : j < n → OnChain after (n + 1) j (first_in after (slot_of room (annotation_in tags after j)))
      old h =
          let t = slot_of room (annotation_in tags work j) in
          subst (λ z. OnChain after (n + 1) j (first_in after z)) (ap (λ (x : Entry). slot_of room x.annotation) (sym (entry_kept j (λ q. omega arith)))) (chained t (index j h) (ℕ_discrete t s))

-- what `add` does, in its cases
module _ (tags room : ℕ) (work : List ℕ) (n : ℕ) (e : Entry) (k : Bool) (ek : k ≡ any (eq_annotation e.annotation) (annotations_in tags work n)) where
  add_is : add_entry (entries_in tags work n) e ≡ cond k (entries_in tags work n) (entries_in tags work n ++ e ∷ [])
  unfolding add_entry
  add_is = ap (λ b. cond b (entries_in tags work n) (entries_in tags work n ++ e ∷ [])) (ap (any (eq_annotation e.annotation)) (entries_annotations tags work n) ∙ sym ek)

  pub add_known : n ≤ room → Indexed tags room work n → k ≡ true → Grown n room tags (add_entry (entries_in tags work n) e) work (Some n)
  add_known l index y =
      rw (add_is, y) (record { more = omega arith; count = l; held = refl; indexed = index })

  pub add_new_lem : (mid after : List ℕ) (s : ℕ) → n < room → tags ≤ 16 → Indexed tags room work n → k ≡ false → s ≡ slot_of room e.annotation → Stored tags work n e mid → Linked mid s n after → Grown n room tags (add_entry (entries_in tags work n) e) after (Some (n + 1))
  add_new_lem mid after s l few index y es st li =
      rw (add_is, y)
      (record {
        more = omega arith;
        count = omega arith;
        held = entries_more tags room work mid after n s e few st li;
        indexed = index_more tags room work mid after n s e few st li es index;
      })

  pub add_full : (after : List ℕ) → room ≤ n → k ≡ false → Grown n room tags (add_entry (entries_in tags work n) e) after None
  add_full after l y =
      rw (add_is, y)
      (let a = length-append (entries_in tags work n) (e ∷ []) in let b = length_entries tags work n in omega arith)

-- a work space with no room has no annotation
pub none_known : (tags : ℕ) (work : List ℕ) (f : Annotation → Bool) (n : ℕ) → n ≡ 0 → false ≡ any f (annotations_in tags work n)
unfolding annotations_in
none_known tags work f n q = rw q refl

pub add_nowhere : (tags room : ℕ) (work after : List ℕ) (n : ℕ) (e : Entry) → room ≡ 0 → n ≤ room → Grown n room tags (add_entry (entries_in tags work n) e) after None
add_nowhere tags room work after n e z l = add_full tags room work n e false (none_known tags work (eq_annotation e.annotation) n (omega arith)) after (omega arith) refl

pub ruleset adding = (add_known, add_new_lem, add_full, add_nowhere, rules)

-- the last step, where the memories agree and where they do not
module _ (want : Want) (work : List ℕ) (n tags : ℕ) (own memory children : List ℕ) (r : Bool) (er : r ≡ agree? (memory_of tags memory) (memory_of tags own)) where
  abbrev last : List ℕ → Entry
  last m = entry want.row.0 want.target.0 m want.rule children

  finished_is : finished want (memory_of tags own) (memory_of tags memory) children ≡ only r (last (joined (memory_of tags memory) (memory_of tags own)) ∷ [])
  finished_is = ap (λ b. only b (last (joined (memory_of tags memory) (memory_of tags own)) ∷ [])) (sym er)

  pub finish_joined : (room : ℕ) (k : Option ℕ) (x after : List ℕ) → r ≡ true → tags ≤ 16 → JoinedIn memory own x → Grown n room tags (add_entry (entries_in tags work n) (entry want.row.0 want.target.0 (memory_of tags x) want.rule children)) after k → Grown n room tags (add_entries (entries_in tags work n) (finished want (memory_of tags own) (memory_of tags memory) children)) after k
  finish_joined room k x after y few e g =
      rw (finished_is, y, add_single) (subst (λ z. Grown n room tags (add_entry (entries_in tags work n) (last z)) after k) (e tags few) g)

  pub finish_clash : (room : ℕ) → n ≤ room → Indexed tags room work n → r ≡ false → Grown n room tags (add_entries (entries_in tags work n) (finished want (memory_of tags own) (memory_of tags memory) children)) work (Some n)
  finish_clash room l index y =
      rw (finished_is, y, add_nothing) (record { more = omega arith; count = l; held = refl; indexed = index })

pub ruleset finishing = (finish_joined, finish_clash, rules)

-- the last step on what is left of a memory is what the rule leaves
pub left_grown : (want : Want) (list : List Entry) (n room tags : ℕ) (k : Option ℕ) (own m x children after : List ℕ) → x ≡ without want.tags want.forget m → Grown n room tags (add_entries list (finished want own x children)) after k → Grown n room tags (add_entries list (leaving want own m children)) after k
left_grown want list n room tags k own m x children after e g = subst (λ z. Grown n room tags (add_entries list (finished want own z children)) after k) e g

pub ruleset leaves = (left_grown, nothing_dropped, rules)
