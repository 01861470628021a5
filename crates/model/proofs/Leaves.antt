-- An annotation derives exactly where its row's tree has a run in its state that leaves exactly its memory. Each annotation has a run of its own. Assumes nothing.
use mathlib.Core.Path.{◌≡◌, refl, sym, ap, ◌∙◌, subst}
use mathlib.Core.Logic.{◌⊎◌, inl, inr, ⊎_elim, ◌↔◌}
use mathlib.Core.Option.{some, some-injective}
use mathlib.Core.List.Memᴰ.{head as here}
use mathlib.Core.List.{List, [], ◌∷◌, Memᴰ as In}
use Prim.Native.Nat.{ℕ, zero, suc, ◌<◌}
use native.Mathlib.Omega.{arith}
use native.Mathlib.Decide.{ℕ_discrete}
use lib.Dec.{T}
use lib.ListN.{length, get_or}
use Rattle.model.specs.Tree.{Tree, at}
use Rattle.model.specs.Automaton.{Rule, Automaton, OneRule, carries?, forgets?}
use Rattle.model.specs.Run.{Labelling, Move, IsRun, Forgets, Together, Consistent}
use Rattle.model.specs.Table.{Row, row_at, tree_at, Lower, Distinct}
use Rattle.model.specs.Annotation.{Memory, empty_memory, agree?, joined, own_memory, kept, finish, Derivable, derived, Joins, joins_none, joins_more}
use Rattle.model.specs.Leaves.{Remembered, Tagged, RunLeaving}
use Rattle.model.proofs.Members.{only_in}
use Rattle.model.proofs.Memory.{within_left, within_right, joined_from, agree_of, cond_from, same_memory}
use Rattle.model.proofs.Tab.{tab_from}
use Rattle.model.proofs.Rows.{in_get_d, below, above, row_at_lem, as_many_kids, equal_trees}
use Rattle.model.proofs.Derivable.{kept_from, kept_at, finish_joined, finish_within, finish_own, width, as_many}
use Rattle.model.proofs.Forgetting.{move_down, forgets_here, remembered_up, remembered_down, together_down, together_kept, consistent_down, both_remembered, below_remembered}

module _ (A : Automaton) (rows : List Row) where
  -- the tagged subtrees of the labelling ρ of t, as far as they are not forgotten, are exactly the rows that m names
  abbrev pub Leaves : Tree → Labelling → Memory → Type 0
  Leaves t ρ m = (k j : ℕ) → (get_or m k 0 ≡ suc j) ↔ Tagged A rows t ρ k j

  -- tag k at row j below one of the children cs, the n-th labelled by ρs n
  record Under (cs : List ℕ) (ρs : ℕ → Labelling) (k j : ℕ) : Type 0 where
    child : ℕ
    is_child : child < length cs
    tagged : Tagged A rows (tree_at rows (get_or cs child 0)) (ρs child) k j

  -- y says what m says and what the children leave
  abbrev JoinLeaves : Memory → List ℕ → (ℕ → Labelling) → Memory → Type 0
  JoinLeaves m cs ρs y = (k j : ℕ) → (get_or y k 0 ≡ suc j) ↔ ((get_or m k 0 ≡ suc j) ⊎ Under cs ρs k j)

  leave_none : (m : Memory) (ρs : ℕ → Labelling) → JoinLeaves m [] ρs m
  leave_none m ρs k j = (inl, ⊎_elim (λ h. h) (λ u. let z : ⊥ = omega (arith, u.is_child) in absurd z))

  leave_more : (m x y : Memory) (c : ℕ) (cs : List ℕ) (ρs : ℕ → Labelling) → T (agree? m x) → Leaves (tree_at rows c) (ρs 0) x → JoinLeaves (joined m x) cs (λ n. ρs (suc n)) y → JoinLeaves m (c ∷ cs) ρs y
  leave_more m x y c cs ρs t lx ly k j = (
    λ h.
        ⊎_elim
        (λ g. ⊎_elim inl (λ e. inr (record { child = 0; is_child = omega arith; tagged = (lx k j).0 e })) (joined_from m x k j g))
        (λ u. inr (record { child = suc u.child; is_child = omega (arith, u.is_child); tagged = u.tagged }))
        ((ly k j).0 h),
    ⊎_elim (λ g. (ly k j).1 (inl (within_left m x k j g))) (λ u. back u.child u.is_child u.tagged),
  )
    where
      back : (n : ℕ) → n < suc (length cs) → Tagged A rows (tree_at rows (get_or (c ∷ cs) n 0)) (ρs n) k j → get_or y k 0 ≡ suc j
      back zero l g = (ly k j).1 (inl (within_right m x t k j ((lx k j).1 g)))
      back (suc n) l g = (ly k j).1 (inr (record { child = n; is_child = omega arith; tagged = g }))

  no_entry_lem : (k j : ℕ) → get_or (empty_memory A) k 0 ≡ suc j → ⊥
  no_entry_lem k j h = let (l, e) = tab_from A.tags (λ k. 0) k j h in omega arith

  -- the state's own tags stand at the root
  own_tagged : (i : ℕ) → i < length rows → (ρ : Labelling) (k j : ℕ) → get_or (own_memory A (ρ []) i) k 0 ≡ suc j → Tagged A rows (tree_at rows i) ρ k j
  own_tagged i l ρ k j h =
      let (lk, c) = tab_from A.tags _ k j h in
      let (tk, e) = cond_from (carries? A (ρ []) k) i j c in
      subst (Tagged A rows (tree_at rows i) ρ k) e (record { tag = lk; row = l; place = []; stands = refl; carried = tk; remembered = λ v f a. a })

  -- an annotation that derives and says what the labelling ρ leaves
  pub record Left (i : ℕ) (ρ : Labelling) : Type 0 where
    pub memory : Memory
    pub derivable : Derivable A rows i (ρ []) memory
    pub leaves : Leaves (tree_at rows i) ρ memory

  -- memories whose entries are all among those of S, which has one row for a tag
  agrees : (S : ℕ → ℕ → Type 0) → ((k j j' : ℕ) → S k j → S k j' → j ≡ j') → (a b : Memory) → ((k j : ℕ) → get_or a k 0 ≡ suc j → S k j) → ((k j : ℕ) → get_or b k 0 ≡ suc j → S k j) → T (agree? a b)
  agrees S one a b sa sb = agree_of a b (λ k j j' e e'. one k j j' (sa k j e) (sb k j' e'))

  module _ (lower : Lower rows) where
    -- the rows and labels of the children of row i
    abbrev kids : ℕ → List ℕ
    kids i = (row_at rows i).children

    abbrev parts : Labelling → ℕ → Labelling
    parts ρ n = λ p. ρ (n ∷ p)

    abbrev kid : ℕ → ℕ → Tree
    kid i n = tree_at rows (get_or (kids i) n 0)

    under_tagged : (i : ℕ) → i < length rows → (ρ : Labelling) (k j : ℕ) → (Forgets A (tree_at rows i) ρ k [] → ⊥) → Under (kids i) (parts ρ) k j → Tagged A rows (tree_at rows i) ρ k j
    under_tagged i l ρ k j root u =
        let g = u.tagged in
        let n = u.child in
        record {
          tag = g.tag;
          row = g.row;
          place = n ∷ g.place;
          stands = above rows lower i l n u.is_child g.place ∙ g.stands;
          carried = g.carried;
          remembered = remembered_up A (tree_at rows i) (kid i n) ρ n (above rows lower i l n u.is_child) k g.place root g.remembered;
        }

    -- a position below a child at which the tag is remembered as far as the child
    tagged_under : (i : ℕ) → i < length rows → (ρ : Labelling) (k j n : ℕ) (p : List ℕ) → k < A.tags → j < length rows → n < length (kids i) → at (kid i n) p ≡ some (tree_at rows j) → T (carries? A (ρ (n ∷ p)) k) → Remembered A (kid i n) (parts ρ n) k p → Under (kids i) (parts ρ) k j
    tagged_under i l ρ k j n p lk lj h e c g = record { child = n; is_child = h; tagged = record { tag = lk; row = lj; place = p; stands = e; carried = c; remembered = g } }

    -- after the last step: a row's memory is what its labelling leaves, if the row has no equal where its state is tagged; r is the rule at the root
    finish_leaves : (i : ℕ) → i < length rows → (ρ : Labelling) (r : Rule) → ((k : ℕ) → Forgets A (tree_at rows i) ρ k [] ↔ T (forgets? r k)) → (m y : Memory) → ((k j : ℕ) → k < A.tags → T (carries? A (ρ []) k) → j < length rows → tree_at rows i ≡ tree_at rows j → i ≡ j) → JoinLeaves (empty_memory A) (kids i) (parts ρ) m → In y (finish A (ρ []) i (kept A r m)) → Leaves (tree_at rows i) ρ y
    finish_leaves i l ρ r root m y one lm iy k j = (
      λ h.
          ⊎_elim
          (λ e. let (lk, o, e') = kept_from A r m k j e in ⊎_elim (λ z. absurd (no_entry_lem k j z)) (under_tagged i l ρ k j (λ f. o ((root k).0 f))) ((lm k j).0 e'))
          (own_tagged i l ρ k j)
          (joined_from (kept A r m) (own_memory A (ρ []) i) k j (subst (λ z. get_or z k 0 ≡ suc j) (finish_joined A (ρ []) i (kept A r m) iy).1 h)),
      λ g. back g.place g.tag g.row g.stands g.carried g.remembered,
    )
      where
        back : (p : List ℕ) → k < A.tags → j < length rows → at (tree_at rows i) p ≡ some (tree_at rows j) → T (carries? A (ρ p) k) → Remembered A (tree_at rows i) ρ k p → get_or y k 0 ≡ suc j
        back [] lk lj e c g = finish_own A (ρ []) i (kept A r m) iy k lk c ∙ ap suc (one k j lk c lj (some-injective _ _ e))
        back (n ∷ p) lk lj e c g =
            let (h, e') = below rows lower i l n p _ e in
            let u = tagged_under i l ρ k j n p lk lj h e' c (remembered_down A (tree_at rows i) (kid i n) ρ n (above rows lower i l n h) k p g) in
            finish_within A (ρ []) i (kept A r m) iy k j (kept_at A r m k lk (λ t. g [] ((root k).1 t) tt) ∙ (lm k j).1 (inr u))

    -- a rule at the root
    abbrev root_move : (i : ℕ) → i < length rows → (r : Rule) → In r A.rules → r.symbol ≡ (row_at rows i).symbol → length r.children ≡ length (kids i) → (ρ : Labelling) → r.target ≡ ρ [] → ((n : ℕ) → n < length (kids i) → ρ (n ∷ []) ≡ get_or r.children n 0) → Move A ρ [] (tree_at rows i)
    root_move i l r ir es el ρ et roots =
        let many = as_many_kids rows lower i l in
        record { rule = r; listed = ir; same_symbol = es; leads = et; as_many = el ∙ sym many; from = λ n h. sym (roots n (omega arith)) }

    -- .. and a run on each child
    row_run : (i : ℕ) → i < length rows → (r : Rule) → In r A.rules → r.symbol ≡ (row_at rows i).symbol → length r.children ≡ length (row_at rows i).children → (ρ : Labelling) → r.target ≡ ρ [] → ((n : ℕ) → n < length (row_at rows i).children → ρ (n ∷ []) ≡ get_or r.children n 0) → ((n : ℕ) → n < length (row_at rows i).children → IsRun A (tree_at rows (get_or (row_at rows i).children n 0)) (λ p. ρ (n ∷ p))) → IsRun A (tree_at rows i) ρ
    row_run i l r ir es el ρ et roots runs [] u e = subst (Move A ρ []) (some-injective _ _ e) (root_move i l r ir es el ρ et roots)
    row_run i l r ir es el ρ et roots runs (n ∷ p) u e =
        let (h, e') = below rows lower i l n p u e in
        let s = runs n h p u e' in
        record { rule = s.rule; listed = s.listed; same_symbol = s.same_symbol; leads = s.leads; as_many = s.as_many; from = s.from }

    row_child : (i : ℕ) → i < length rows → (n : ℕ) → n < length (row_at rows i).children → get_or (row_at rows i).children n 0 < i
    row_child i l n h = lower i l _ (in_get_d 0 (row_at rows i).children n h)

    -- Children that are consistent, what they leave joined without a clash, and what is left with the root's tags added without a clash, make a consistent labelling.
    leaves_consistent : (i : ℕ) → i < length rows → (ρ : Labelling) (m y : Memory) → ((n : ℕ) → n < length (kids i) → Consistent A (kid i n) (parts ρ n)) → JoinLeaves (empty_memory A) (kids i) (parts ρ) m → Leaves (tree_at rows i) ρ y → Consistent A (tree_at rows i) ρ
    leaves_consistent i l ρ m y each lm ly k lk p p' u u' e e' c c' g = go p p' e e' c c' g
      where
        -- by an entry of a memory
        by : (z : Memory) → ((j : ℕ) → j < length rows → u ≡ tree_at rows j → get_or z k 0 ≡ suc j) → ((j : ℕ) → j < length rows → u' ≡ tree_at rows j → get_or z k 0 ≡ suc j) → (q q' : List ℕ) → at (tree_at rows i) q ≡ some u → at (tree_at rows i) q' ≡ some u' → u ≡ u'
        by z h h' q q' e e' =
            let (j, lj, o) = row_at_lem rows lower q i l u e in
            let (j', lj', o') = row_at_lem rows lower q' i l u' e' in
            let a = h j lj o in
            let a' = h' j' lj' o' in
            let same : j ≡ j' = omega arith in
            o ∙ ap (tree_at rows) same ∙ sym o'

        -- a position that is remembered up to the root
        seen : (q : List ℕ) (w : Tree) → at (tree_at rows i) q ≡ some w → T (carries? A (ρ q) k) → Remembered A (tree_at rows i) ρ k q → (j : ℕ) → j < length rows → w ≡ tree_at rows j → get_or y k 0 ≡ suc j
        seen q w e c g j lj o = (ly k j).1 (record { tag = lk; row = lj; place = q; stands = e ∙ ap some o; carried = c; remembered = g })

        -- .. or up to a child
        seen_below : (n : ℕ) (q : List ℕ) (w : Tree) → n < length (kids i) → at (kid i n) q ≡ some w → T (carries? A (ρ (n ∷ q)) k) → Remembered A (kid i n) (parts ρ n) k q → (j : ℕ) → j < length rows → w ≡ tree_at rows j → get_or m k 0 ≡ suc j
        seen_below n q w h e c g j lj o = (lm k j).1 (inr (tagged_under i l ρ k j n q lk lj h (e ∙ ap some o) c g))

        go : (p p' : List ℕ) → at (tree_at rows i) p ≡ some u → at (tree_at rows i) p' ≡ some u' → T (carries? A (ρ p) k) → T (carries? A (ρ p') k) → Together A (tree_at rows i) ρ k p p' → u ≡ u'
        go [] p' e e' c c' g = by y (seen [] u e c (λ v f a. a)) (seen p' u' e' c' (λ v f a. (g v f).1 a)) [] p' e e'
        go (n ∷ p) [] e e' c c' g = by y (seen (n ∷ p) u e c (λ v f a. (g v f).0 a)) (seen [] u' e' c' (λ v f a. a)) (n ∷ p) [] e e'
        go (n ∷ p) (n' ∷ p') e e' c c' g =
            let (h, d) = below rows lower i l n p u e in
            let (h', d') = below rows lower i l n' p' u' e' in
            cases (ℕ_discrete n n') h h' d d'
          where
            cases : Dec (n ≡ n') → n < length (kids i) → n' < length (kids i) → at (kid i n) p ≡ some u → at (kid i n') p' ≡ some u' → u ≡ u'
            cases (yes q) h h' d d' =
                each n h k lk p p' u u' d (subst (λ z. at (kid i z) p' ≡ some u') (sym q) d') c (subst (λ z. T (carries? A (ρ (z ∷ p')) k)) (sym q) c')
                (together_down A (tree_at rows i) (kid i n) ρ n (above rows lower i l n h) k p p' (subst (λ z. Together A (tree_at rows i) ρ k (n ∷ p) (z ∷ p')) (sym q) g))
            cases (no q) h h' d d' =
                by m
                (seen_below n p u h d c (together_kept A (tree_at rows i) (kid i n) ρ n (above rows lower i l n h) k n' p p' q (λ v f. (g v f).0)))
                (seen_below n' p' u' h' d' c' (together_kept A (tree_at rows i) (kid i n') ρ n' (above rows lower i l n' h') k n p' p (λ z. q (sym z)) (λ v f. (g v f).1)))
                (n ∷ p) (n' ∷ p') e e'

    -- FROM DERIVATIONS TO RUNS
    -- a run on each child, and what they leave together
    record ChildRuns (m : Memory) (cs qs : List ℕ) (y : Memory) : Type 0 where
      labels : ℕ → Labelling
      roots : (n : ℕ) → n < length cs → labels n [] ≡ get_or qs n 0
      runs : (n : ℕ) → n < length cs → IsRun A (tree_at rows (get_or cs n 0)) (labels n)
      consistent : (n : ℕ) → n < length cs → Consistent A (tree_at rows (get_or cs n 0)) (labels n)
      leaves : JoinLeaves m cs labels y

    no_runs : (m : Memory) → ChildRuns m [] [] m
    no_runs m =
        record {
          labels = λ n p. 0;
          roots = λ n h. let z : ⊥ = omega arith in absurd z;
          runs = λ n h. let z : ⊥ = omega arith in absurd z;
          consistent = λ n h. let z : ⊥ = omega arith in absurd z;
          leaves = leave_none m (λ n p. 0);
        }

    abbrev first : {B : Type 0} → B → (ℕ → B) → ℕ → B
    first b f zero = b
    first b f (suc n) = f n

    more_runs : (m x y : Memory) (c q : ℕ) (cs qs : List ℕ) → RunLeaving A rows c q x → T (agree? m x) → ChildRuns (joined m x) cs qs y → ChildRuns m (c ∷ cs) (q ∷ qs) y
    more_runs m x y c q cs qs g t rest =
        record {
          labels = first g.run rest.labels;
          roots = elim [ zero ↦ λ h. g.root | suc n' ↦ λ h. rest.roots n' (omega arith) ];
          runs = elim [ zero ↦ λ h. g.runs | suc n' ↦ λ h. rest.runs n' (omega arith) ];
          consistent = elim [ zero ↦ λ h. g.consistent | suc n' ↦ λ h. rest.consistent n' (omega arith) ];
          leaves = leave_more m x y c cs (first g.run rest.labels) t g.leaves rest.leaves;
        }

    abbrev under : ℕ → (ℕ → Labelling) → Labelling
    under q ρs [] = q
    under q ρs (n ∷ p) = ρs n p

    module _ (once : OneRule A) (distinct : Distinct rows) where
      built : (i q : ℕ) (r : Rule) (m y : Memory) → i < length rows → In r A.rules → r.symbol ≡ (row_at rows i).symbol → r.target ≡ q → length r.children ≡ length (row_at rows i).children → ChildRuns (empty_memory A) (row_at rows i).children r.children m → In y (finish A q i (kept A r m)) → length y ≡ A.tags → RunLeaving A rows i q y
      built i q r m y l ir es et el g iy w =
          let ρ = under q g.labels in
          let runs = row_run i l r ir es el ρ et g.roots g.runs in
          let root : (k : ℕ) → Forgets A (tree_at rows i) ρ k [] ↔ T (forgets? r k) = λ k. forgets_here A once (tree_at rows i) ρ k [] (tree_at rows i) refl (root_move i l r ir es el ρ et g.roots) in
          let lv = finish_leaves i l ρ r root m y (λ k j lk c lj e. (equal_trees rows lower distinct i j l lj).0 e) g.leaves iy in
          record {
            run = ρ;
            root = refl;
            runs = runs;
            consistent = leaves_consistent i l ρ m y g.consistent g.leaves lv;
            width = w;
            leaves = lv;
          }

      mutual
        -- An annotation that derives has a run that leaves its memory; here no two rows may be equal.
        pub derivable_run : {i q : ℕ} {m : Memory} → Derivable A rows i q m → RunLeaving A rows i q m
        derivable_run (derived {i = i} {q = q} {r = r} {m = m} {y = y} l ir es et js iy) =
            built i q r m y l ir es et (as_many A rows js) (joins_runs js) iy (width A rows (derived l ir es et js iy))

        joins_runs : {m y : Memory} {cs qs : List ℕ} → Joins A rows m cs qs y → ChildRuns m cs qs y
        joins_runs (joins_none {m = m}) = no_runs m
        joins_runs (joins_more {m = m} {x = x} {y = y} {c = c} {q = q} {cs = cs} {qs = qs} d t js) = more_runs m x y c q cs qs (derivable_run d) t (joins_runs js)

    -- FROM RUNS TO DERIVATIONS
    -- the children of a position of a run, joined: S has one row for a tag, and what the children leave is in S
    join_all : (S : ℕ → ℕ → Type 0) → ((k j j' : ℕ) → S k j → S k j' → j ≡ j') → (cs qs : List ℕ) (ρs : ℕ → Labelling) (m : Memory) → ((k j : ℕ) → get_or m k 0 ≡ suc j → S k j) → length qs ≡ length cs → ((n : ℕ) → n < length cs → Left (get_or cs n 0) (ρs n)) → ((n : ℕ) → n < length cs → ρs n [] ≡ get_or qs n 0) → ((k j : ℕ) → Under cs ρs k j → S k j) → (y : Memory) × Joins A rows m cs qs y × JoinLeaves m cs ρs y
    join_all S one [] [] ρs m sm e each roots up = (m, joins_none, leave_none m ρs)
    join_all S one [] (q ∷ qs) ρs m sm e each roots up = let z : ⊥ = omega arith in absurd z
    join_all S one (c ∷ cs) [] ρs m sm e each roots up = let z : ⊥ = omega arith in absurd z
    join_all S one (c ∷ cs) (q ∷ qs) ρs m sm e each roots up =
        let g = each 0 (omega arith) in
        let x = g.memory in
        let sx : (k j : ℕ) → get_or x k 0 ≡ suc j → S k j = λ k j h. up k j (record { child = 0; is_child = omega arith; tagged = (g.leaves k j).0 h }) in
        let ag = agrees S one m x sm sx in
        let (y, js, ly) =
        join_all S one cs qs (λ n. ρs (suc n)) (joined m x) (λ k j h. ⊎_elim (sm k j) (sx k j) (joined_from m x k j h)) (omega arith) (λ n h. each (suc n) (omega arith)) (λ n h. roots (suc n) (omega arith))
        (λ k j u. up k j (record { child = suc u.child; is_child = omega (arith, u.is_child); tagged = u.tagged })) in
        (y, joins_more (subst (λ z. Derivable A rows c z x) (roots 0 (omega arith)) g.derivable) ag js, leave_more m x y c cs ρs ag g.leaves ly)

    module _ (once : OneRule A) (distinct : Distinct rows) where
      -- in a consistent labelling what is remembered below the root's children has one row for a tag
      one_under : (i : ℕ) → i < length rows → (ρ : Labelling) → Consistent A (tree_at rows i) ρ → (k j j' : ℕ) → Under (kids i) (parts ρ) k j → Under (kids i) (parts ρ) k j' → j ≡ j'
      one_under i l ρ con k j j' a b =
          let g = a.tagged in
          let g' = b.tagged in
          let is = above rows lower i l a.child a.is_child in
          let is' = above rows lower i l b.child b.is_child in
          (equal_trees rows lower distinct j j' g.row g'.row).0
          (con k g.tag (a.child ∷ g.place) (b.child ∷ g'.place) _ _ (is g.place ∙ g.stands) (is' g'.place ∙ g'.stands) g.carried g'.carried
          (below_remembered A (tree_at rows i) (kid i a.child) (kid i b.child) ρ a.child b.child is is' k g.place g'.place g.remembered g'.remembered))

      -- .. and so has what is remembered at the root
      one_tagged : (i : ℕ) (ρ : Labelling) → Consistent A (tree_at rows i) ρ → (k j j' : ℕ) → Tagged A rows (tree_at rows i) ρ k j → Tagged A rows (tree_at rows i) ρ k j' → j ≡ j'
      one_tagged i ρ con k j j' g g' =
          (equal_trees rows lower distinct j j' g.row g'.row).0
          (con k g.tag g.place g'.place _ _ g.stands g'.stands g.carried g'.carried (both_remembered A (tree_at rows i) ρ k g.place g'.place g.remembered g'.remembered))

      -- a consistent run gives an annotation that derives
      run_left : (n i : ℕ) → i < n → i < length rows → (ρ : Labelling) → IsRun A (tree_at rows i) ρ → Consistent A (tree_at rows i) ρ → Left i ρ
      run_left zero i h l ρ runs con = let z : ⊥ = omega arith in absurd z
      run_left (suc n) i h l ρ runs con =
          let t = tree_at rows i in
          let s = runs [] t refl in
          let r = s.rule in
          let many = as_many_kids rows lower i l in
          let root : (k : ℕ) → Forgets A t ρ k [] ↔ T (forgets? r k) = λ k. forgets_here A once t ρ k [] t refl s in
          let each : (c : ℕ) → c < length (kids i) → Left (get_or (kids i) c 0) (parts ρ c) = λ c lc.
          let b = row_child i l c lc in
          let is = above rows lower i l c lc in
          run_left n (get_or (kids i) c 0) (omega arith) (omega arith) (parts ρ c) (λ p u e. move_down (runs (c ∷ p) u (is p ∙ e))) (consistent_down A t (kid i c) ρ c is con) in
          let (m, js, lm) =
          join_all (Under (kids i) (parts ρ)) (one_under i l ρ con) (kids i) r.children (parts ρ) (empty_memory A) (λ k j z. absurd (no_entry_lem k j z)) (s.as_many ∙ many) each (λ c lc. sym (s.from c (omega arith))) (λ k j u. u) in
          let x = kept A r m in
          let own = own_memory A (ρ []) i in
          let ag = agrees (Tagged A rows t ρ) (one_tagged i ρ con) x own
          (λ k j e. let (lk, o, e') = kept_from A r m k j e in ⊎_elim (λ z. absurd (no_entry_lem k j z)) (under_tagged i l ρ k j (λ f. o ((root k).0 f))) ((lm k j).0 e'))
          (own_tagged i l ρ) in
          let iy : In (joined x own) (finish A (ρ []) i x) = only_in (agree? x own) ag (here refl) in
          record {
            memory = joined x own;
            derivable = derived l s.listed s.same_symbol s.leads js iy;
            leaves = finish_leaves i l ρ r root m (joined x own) (λ k j lk c lj e. (equal_trees rows lower distinct i j l lj).0 e) lm iy;
          }

      -- a run that is consistent in its tags leaves a memory
      pub consistent_left : (i : ℕ) → i < length rows → (ρ : Labelling) → IsRun A (tree_at rows i) ρ → Consistent A (tree_at rows i) ρ → Left i ρ
      consistent_left i l ρ runs con = run_left (suc i) i (omega arith) l ρ runs con

      -- A run that leaves a memory gives an annotation that derives.
      pub leaving_derivable : (i q : ℕ) (m : Memory) → i < length rows → RunLeaving A rows i q m → Derivable A rows i q m
      leaving_derivable i q m l g =
          let d = consistent_left i l g.run g.runs g.consistent in
          let same = same_memory d.memory m (width A rows d.derivable ∙ sym g.width) (λ k j h. (g.leaves k j).1 ((d.leaves k j).0 h)) (λ k j h. (d.leaves k j).1 ((g.leaves k j).0 h)) in
          subst (Derivable A rows i q) same (subst (λ z. Derivable A rows i z d.memory) g.root d.derivable)

      -- THE THEOREM: an annotation derives exactly where its row's tree has a run in its state, consistent in its tags, that leaves exactly its memory.
      pub derivable_leaves : (i q : ℕ) (m : Memory) → i < length rows → Derivable A rows i q m ↔ RunLeaving A rows i q m
      derivable_leaves i q m l = (derivable_run once distinct, leaving_derivable i q m l)
