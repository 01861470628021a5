-- An entry written and linked: the entries are one more, the others as they were, and the index is whole. Assumes nothing.
use mathlib.Core.Path.{◌≡◌, refl, sym, ap, ◌∙◌, subst}
use mathlib.Core.Logic.{◌⊎◌, inl, inr, ⊎_elim}
use mathlib.Core.List.{List, [], ◌∷◌, ◌++◌}
use mathlib.Core.Bool.{Bool, true, false, cond}
use Prim.Native.Nat.{ℕ, ◌+◌, ◌*◌, ◌<◌, ◌≤◌}
use native.Mathlib.Omega.{arith}
use native.Mathlib.Nat.{eq-or-lt_of_le, le_of_suc-le-suc}
use native.Mathlib.Decide.{ℕ_discrete}
use native.Mathlib.Numerals.{add-one}
use borrow.Author.Rules.{rules}
use lib.ListN.{length, get_or, set, length-set, length-append}
use lib.Seq.{get_or-set_same, get_or-set_other}
use Rattle.std.specs.Prelude.{Option, Some, None}
use Rattle.model.specs.Limits.{max_children}
use Rattle.model.specs.Lists.{any, only, tab}
use Rattle.model.specs.Space.{put_at}
use Rattle.model.specs.Annotation.{joined, eq_annotation}
use Rattle.model.proofs.Tab.{tab_snoc}
use Rattle.automaton.proofs.Parts.{tab_same, tab_is}
use Rattle.membership.specs.Cells.{memory_of, JoinedIn, without, cell_of, memory_in, annotation_in, annotations_in, rule_in, child_in}
use Rattle.judging.specs.Cells.{Short, AgreeIn, ShortIn}
use Rattle.membership.specs.Index.{slot_of, next_in, link_of, OnChain, newest, older}
use Rattle.judging.specs.Index.{first_in, Indexed, Linked}
use Rattle.membership.specs.Entries.{Entry, entry_in, entries_in, add_entry, add_entries}
use Rattle.judging.specs.Entries.{Grown, Stored}
use Rattle.judging.specs.Search.{tags_in, row_asked, rule_asked, target_asked, forget_asked, finished, leaving}
use Rattle.judging.proofs.Places.{join_short}
use Rattle.judging.proofs.Own.{nothing_dropped}
use Rattle.membership.proofs.Copying.{Copied, copied}
use Rattle.membership.proofs.Adding.{length_entries, add_nothing, add_single}
use Rattle.membership.proofs.Chain.{link_is, chain_bound}
use Rattle.membership.specs.declared.table.Plan.{Plan}
use Rattle.judging.specs.declared.search.Want.{Want}
use Rattle.membership.proofs.Storing.{entry, entry_same, entry_cells, entries_annotations, none_known}

-- the writes of an entry, one after the other
module _ (tags : ℕ) (w₀ w₃ w₆ : List ℕ) (n i q rule : ℕ) (memory children : List ℕ) (few : tags ≤ 16) (fits : n * 32 + 32 ≤ length w₀) (long₃ : length w₃ ≡ length w₀)
    (wide : length memory ≡ 16) (short : Short tags memory) (four : length children ≡ 4)
    (put₃ : w₃ ≡ put_at (set (set w₀ (n * 32) i) (n * 32 + 1) q) (n * 32 + 2) memory)
    (put₆ : w₆ ≡ put_at (set (set w₃ (n * 32 + 18) 0) (n * 32 + 19) rule) (n * 32 + 20) children) where
  memory_in_lem : Copied (set (set w₀ (n * 32) i) (n * 32 + 1) q) (n * 32 + 2) memory w₃
  memory_in_lem = copied _ (n * 32 + 2) memory w₃ (simp length-set (omega arith)) put₃

  children_in : Copied (set (set w₃ (n * 32 + 18) 0) (n * 32 + 19) rule) (n * 32 + 20) children w₆
  children_in = copied _ (n * 32 + 20) children w₆ (simp length-set (omega arith)) put₆

  outside : (x : ℕ) → (x < n * 32) ⊎ (n * 32 + 24 ≤ x) → get_or w₆ x 0 ≡ get_or w₀ x 0
  outside x (inl l) =
      children_in.below x (omega arith)
      ∙ get_or-set_other (set w₃ (n * 32 + 18) 0) (n * 32 + 19) x rule 0 (λ e. omega arith)
      ∙ get_or-set_other w₃ (n * 32 + 18) x 0 0 (λ e. omega arith)
      ∙ memory_in_lem.below x (omega arith)
      ∙ get_or-set_other (set w₀ (n * 32) i) (n * 32 + 1) x q 0 (λ e. omega arith)
      ∙ get_or-set_other w₀ (n * 32) x i 0 (λ e. omega arith)
  outside x (inr l) =
      children_in.above x (omega arith)
      ∙ get_or-set_other (set w₃ (n * 32 + 18) 0) (n * 32 + 19) x rule 0 (λ e. omega arith)
      ∙ get_or-set_other w₃ (n * 32 + 18) x 0 0 (λ e. omega arith)
      ∙ memory_in_lem.above x (omega arith)
      ∙ get_or-set_other (set w₀ (n * 32) i) (n * 32 + 1) x q 0 (λ e. omega arith)
      ∙ get_or-set_other w₀ (n * 32) x i 0 (λ e. omega arith)

  -- what stands before the mark is what was written first
  before : (x : ℕ) → x < n * 32 + 18 → get_or w₆ x 0 ≡ get_or w₃ x 0
  before x l =
      children_in.below x (omega arith)
      ∙ get_or-set_other (set w₃ (n * 32 + 18) 0) (n * 32 + 19) x rule 0 (λ e. omega arith)
      ∙ get_or-set_other w₃ (n * 32 + 18) x 0 0 (λ e. omega arith)

  memory_at_lem : (k : ℕ) → k < 16 → get_or w₆ (n * 32 + (2 + k)) 0 ≡ get_or memory k 0
  memory_at_lem k l = let e : n * 32 + (2 + k) ≡ n * 32 + 2 + k = omega arith in before (n * 32 + (2 + k)) (omega arith) ∙ ap (λ x. get_or w₃ x 0) e ∙ memory_in_lem.inside k (omega arith)

  pub stored : Stored tags w₀ n (entry i q (memory_of tags memory) rule children) w₆
  unfolding cell_of memory_of memory_in rule_in child_in
  stored =
      record {
        entry = entry_same _ _ _ _ _ _ _ _ _ _
            (before (n * 32 + 0) (omega arith)
            ∙ memory_in_lem.below (n * 32 + 0) (omega arith)
            ∙ get_or-set_other (set w₀ (n * 32) i) (n * 32 + 1) (n * 32 + 0) q 0 (λ e. omega arith)
            ∙ (let e : n * 32 + 0 ≡ n * 32 = omega arith in ap (λ x. get_or (set w₀ (n * 32) i) x 0) e)
            ∙ get_or-set_same w₀ (n * 32) i 0 (omega arith))
            (before (n * 32 + 1) (omega arith)
            ∙ memory_in_lem.below (n * 32 + 1) (omega arith)
            ∙ get_or-set_same (set w₀ (n * 32) i) (n * 32 + 1) q 0 (let e = length-set w₀ (n * 32) i in omega arith))
            (tab_same tags (λ k. get_or w₆ (n * 32 + (2 + k)) 0) (λ k. get_or memory k 0) (λ k l. memory_at_lem k (omega arith)))
            (children_in.below (n * 32 + 19) (omega arith) ∙ get_or-set_same (set w₃ (n * 32 + 18) 0) (n * 32 + 19) rule 0 (let e = length-set w₃ (n * 32 + 18) 0 in omega arith))
            (tab_same max_children (λ p. get_or w₆ (n * 32 + (20 + p)) 0) (λ p. get_or children p 0)
            (λ p l. let e : n * 32 + (20 + p) ≡ n * 32 + 20 + p = omega arith in ap (λ x. get_or w₆ x 0) e ∙ children_in.inside p (omega arith))
            ∙ tab_is 0 children max_children (λ p. get_or children p 0) (sym four) (λ p l. refl));
        short = λ k l m. memory_at_lem k m ∙ short k l m;
        others = λ j k l other. outside (j * 32 + k) (apart j k l (lt_or_gt j n other));
      }
    where
      lt_or_gt : (j n : ℕ) → (j ≡ n → ⊥) → (j < n) ⊎ (n < j)
      lt_or_gt j n h = go (native.Mathlib.Decide.dec_lt j n)
        where
          go : Dec (j < n) → (j < n) ⊎ (n < j)
          go (yes l) = inl l
          go (no l) = inr (omega (arith, h, l))

      apart : (j k : ℕ) → k < 32 → (j < n) ⊎ (n < j) → (j * 32 + k < n * 32) ⊎ (n * 32 + 24 ≤ j * 32 + k)
      apart j k l (inl h) = inl (omega arith)
      apart j k l (inr h) = inr (omega arith)

-- an entry is written as number n and linked into its slot
module _ (tags room : ℕ) (work mid after slots slots' : List ℕ) (n s : ℕ) (e : Entry) (few : tags ≤ 16) (st : Stored tags work n e mid) (li : Linked mid slots s n after slots') where
  cell_kept : (j k : ℕ) → k < 24 → (j ≡ n → ⊥) → cell_of after j k ≡ cell_of work j k
  cell_kept j k l other = li.cells j k l ∙ st.others j k (omega arith) other

  entry_kept : (j : ℕ) → (j ≡ n → ⊥) → entry_in tags after j ≡ entry_in tags work j
  entry_kept j other = entry_cells tags work after j few (λ k l. cell_kept j k l other)

  entry_new : entry_in tags after n ≡ e
  entry_new = entry_cells tags mid after n few (λ k l. li.cells n k l) ∙ st.entry

  pub entries_more : entries_in tags after (n + 1) ≡ entries_in tags work n ++ e ∷ []
  unfolding entries_in
  entries_more =
      ap (λ m. tab m (entry_in tags after)) (add-one n)
      ∙ tab_snoc n (entry_in tags after)
      ∙ ap (λ l. l ++ entry_in tags after n ∷ []) (tab_same n (entry_in tags after) (entry_in tags work) (λ j l. entry_kept j (λ q. omega arith)))
      ∙ ap (λ x. tab n (entry_in tags work) ++ x ∷ []) entry_new

  next_mid : (k : ℕ) → (k ≡ n → ⊥) → next_in mid k ≡ next_in work k
  unfolding next_in
  next_mid k other = st.others k 25 (omega arith) other

  next_kept : (k : ℕ) → (k ≡ n → ⊥) → next_in after k ≡ next_in work k
  next_kept k other = li.nexts k other ∙ next_mid k other

  moved : {j i : ℕ} → OnChain work n j i → OnChain after (n + 1) j i
  moved (newest l) = newest (omega arith)
  moved {j = j} (older {k = k} l m c) =
      let q = next_kept k (λ z. omega arith) in
      older {k = k} (omega arith) (subst (λ z. z ≤ k) (sym q) m) (subst (OnChain after (n + 1) j) (sym q) (moved c))

  -- one of the first n, or the new one
  each : {P : ℕ → Type 0} → P n → ((j : ℕ) → j < n → P j) → (j : ℕ) → j < n + 1 → P j
  each {P = P} new old j l = ⊎_elim (λ q. subst P (sym q) new) (old j) (eq-or-lt_of_le (le_of_suc-le-suc (rw add-one at l)))

  chain_more : s ≡ slot_of room e.annotation → ((j : ℕ) → j < n → OnChain work n j (first_in slots (slot_of room (annotation_in tags work j)))) → (j : ℕ) → j < n + 1 → OnChain after (n + 1) j (first_in slots' (slot_of room (annotation_in tags after j)))
  chain_more es chains = each {P = λ j. OnChain after (n + 1) j (first_in slots' (slot_of room (annotation_in tags after j)))} new old
    where
      new : OnChain after (n + 1) n (first_in slots' (slot_of room (annotation_in tags after n)))
      new = subst (OnChain after (n + 1) n) (sym li.first ∙ ap (first_in slots') (es ∙ ap (λ (x : Entry). slot_of room x.annotation) (sym entry_new))) (newest (omega arith))

      chained : (j t : ℕ) → OnChain work n j (first_in slots t) → Dec (t ≡ s) → OnChain after (n + 1) j (first_in slots' t)
      chained j t c (yes q) =
          let b = chain_bound work n c in
          let f : next_in after n ≡ first_in slots t = li.next ∙ ap (λ z. link_of n (first_in slots z)) (sym q) ∙ link_is n (first_in slots t) b in
          subst (OnChain after (n + 1) j) (sym (ap (first_in slots') q ∙ li.first)) (older {k = n} (omega arith) (subst (λ z. z ≤ n) (sym f) b) (subst (OnChain after (n + 1) j) (sym f) (moved c)))
      chained j t c (no q) = subst (OnChain after (n + 1) j) (sym (li.firsts t q)) (moved c)

      old : (j : ℕ) → j < n → OnChain after (n + 1) j (first_in slots' (slot_of room (annotation_in tags after j)))
      old j h =
          let t = slot_of room (annotation_in tags work j) in
          subst (λ z. OnChain after (n + 1) j (first_in slots' z)) (ap (λ (x : Entry). slot_of room x.annotation) (sym (entry_kept j (λ q. omega arith)))) (chained j t (chains j h) (ℕ_discrete t s))

  pub index_more : s ≡ slot_of room e.annotation → Indexed tags room work slots n → Indexed tags room after slots' (n + 1)
  index_more es index =
      record {
        chains = chain_more es index.chains;
        short = each {P = ShortIn tags after} (λ k l m. li.cells n (2 + k) (omega arith) ∙ st.short k l m) (λ j h k l m. cell_kept j (2 + k) (omega arith) (λ q. omega arith) ∙ index.short j h k l m);
      }

-- what `add` does, in its cases
module _ (tags room : ℕ) (work : List ℕ) (n : ℕ) (e : Entry) (k : Bool) (ek : k ≡ any (eq_annotation e.annotation) (annotations_in tags work n)) where
  add_is : add_entry (entries_in tags work n) e ≡ cond k (entries_in tags work n) (entries_in tags work n ++ e ∷ [])
  unfolding add_entry
  add_is = ap (λ b. cond b (entries_in tags work n) (entries_in tags work n ++ e ∷ [])) (ap (any (eq_annotation e.annotation)) (entries_annotations tags work n) ∙ sym ek)

  pub add_known : (slots : List ℕ) → n ≤ room → Indexed tags room work slots n → k ≡ true → Grown n room tags (add_entry (entries_in tags work n) e) work slots (Some n)
  add_known slots l index y =
      rw (add_is, y) (record { more = omega arith; count = l; held = refl; indexed = index })

  pub add_new_lem : (mid after slots slots' : List ℕ) (s : ℕ) → n < room → tags ≤ 16 → Indexed tags room work slots n → k ≡ false → s ≡ slot_of room e.annotation → Stored tags work n e mid → Linked mid slots s n after slots' → Grown n room tags (add_entry (entries_in tags work n) e) after slots' (Some (n + 1))
  add_new_lem mid after slots slots' s l few index y es st li =
      rw (add_is, y)
      (record {
        more = omega arith;
        count = omega arith;
        held = entries_more tags room work mid after slots slots' n s e few st li;
        indexed = index_more tags room work mid after slots slots' n s e few st li es index;
      })

  pub add_full : (after slots : List ℕ) → room ≤ n → k ≡ false → Grown n room tags (add_entry (entries_in tags work n) e) after slots None
  add_full after slots l y =
      rw (add_is, y)
      (let a = length-append (entries_in tags work n) (e ∷ []) in let b = length_entries tags work n in omega arith)

pub add_nowhere : (tags room : ℕ) (work after slots : List ℕ) (n : ℕ) (e : Entry) → room ≡ 0 → n ≤ room → Grown n room tags (add_entry (entries_in tags work n) e) after slots None
add_nowhere tags room work after slots n e z l = add_full tags room work n e false (none_known tags work (eq_annotation e.annotation) n (omega arith)) after slots (omega arith) refl

pub ruleset adding = (add_known, add_new_lem, add_full, add_nowhere, rules)

-- the last step, where the memories agree and where they do not
module _ (asked : Want) (work : List ℕ) (n tags : ℕ) (own memory children : List ℕ) (r : Bool) (few : tags ≤ 16) (x : Short tags memory) (y : Short tags own) (agrees : AgreeIn memory own r) where
  abbrev last : List ℕ → Entry
  last m = entry (row_asked asked) (target_asked asked) m (rule_asked asked) children

  finished_is : finished asked (memory_of tags own) (memory_of tags memory) children ≡ only r (last (joined (memory_of tags memory) (memory_of tags own)) ∷ [])
  finished_is = ap (λ b. only b (last (joined (memory_of tags memory) (memory_of tags own)) ∷ [])) (sym (agrees tags few x y))

  pub finish_joined : (room : ℕ) (k : Option ℕ) (all after slots : List ℕ) → r ≡ true → JoinedIn memory own all → Grown n room tags (add_entry (entries_in tags work n) (last (memory_of tags all))) after slots k → Grown n room tags (add_entries (entries_in tags work n) (finished asked (memory_of tags own) (memory_of tags memory) children)) after slots k
  finish_joined room k all after slots t e g =
      rw (finished_is, t, add_single) (subst (λ z. Grown n room tags (add_entry (entries_in tags work n) (last z)) after slots k) (e tags few) g)

  pub finish_clash : (room : ℕ) (slots : List ℕ) → n ≤ room → Indexed tags room work slots n → r ≡ false → Grown n room tags (add_entries (entries_in tags work n) (finished asked (memory_of tags own) (memory_of tags memory) children)) work slots (Some n)
  finish_clash room slots l index f =
      rw (finished_is, f, add_nothing) (record { more = omega arith; count = l; held = refl; indexed = index })

-- nothing stands past the tags in the joined memory
pub joined_short : (tags : ℕ) (a b out : List ℕ) → Short tags a → Short tags b → JoinedIn a b out → Short tags out
unfolding memory_of
joined_short tags a b out x y e = join_short tags out (λ k. get_or a k 0) (λ k. get_or b k 0) (e 16 (omega arith)) x y

pub ruleset finishing = (finish_joined, finish_clash, rules)

-- the last step on what is left of a memory is what the rule leaves
pub left_grown : (plan : Plan) (asked : Want) (list : List Entry) (n room tags : ℕ) (k : Option ℕ) (own m x children after slots : List ℕ) → x ≡ without (tags_in plan) (forget_asked asked) m → Grown n room tags (add_entries list (finished asked own x children)) after slots k → Grown n room tags (add_entries list (leaving plan asked own m children)) after slots k
left_grown plan asked list n room tags k own m x children after slots e g = subst (λ z. Grown n room tags (add_entries list (finished asked own z children)) after slots k) e g

pub ruleset leaves = (left_grown, nothing_dropped, rules)
