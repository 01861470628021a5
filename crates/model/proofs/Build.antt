-- The table of a tree has that tree, children below their rows, no two equal rows, and a row for each subtree only. Assumes nothing.
use mathlib.Core.Path.{◌≡◌, refl, sym, ap, ◌∙◌, subst}
use mathlib.Core.Logic.{◌⊎◌, inl, inr, ⊎_elim}
use mathlib.Core.Option
use mathlib.Core.Option.{Option, none, some, some-injective}
use mathlib.Core.List.Memᴰ.{cases_cons as in_cons}
use mathlib.Core.List.Memᴰ.{not-nil}
use mathlib.Core.List.{List, [], ◌∷◌, ◌++◌, map, append_assoc, append-nil, Memᴰ as In}
use mathlib.Core.Bool.{Bool, true, false, ◌&&◌, cond}
use Prim.Native.Nat.{ℕ, zero, suc, ◌<◌, ◌≤◌, ◌-◌}
use native.Mathlib.Omega.{arith}
use native.Mathlib.Nat.{eq-or-lt_of_le, le_of_suc-le-suc}
use native.Mathlib.Decide.{dec_lt}
use lib.Dec.{T, eqb, eqb→eq, eqb_refl}
use lib.ListN.{length, get_or, length-append, get_or-append}
use lib.Seq.{get_or-append_seam}
use Rattle.model.specs.Tree.{Tree, Forest, node, fnil, fcons, trees, forest, at, levels, highest}
use Rattle.model.specs.Lists.{eq_list}
use Rattle.model.specs.Table.{Row, no_row, row_at, tree_in, tree_at, tree_of, Lower, Distinct, AllUsed}
use Rattle.model.specs.Build.{eq_row, find_row, placed, add_tree, add_forest, rows_of}
use Rattle.model.proofs.Members.{T_and, and_T, eq_list→eq, eq_list_refl, map_same}
use Rattle.model.proofs.Rows.{tree_eq, one_tree, below, in_get_d}
use Rattle.model.proofs.Levels.{at_in, below_levels}

pub eq_row→eq : (a b : Row) → T (eq_row a b) → a ≡ b
eq_row→eq a b h =
    let (h₁, g) = T_and (eqb a.symbol b.symbol) (eqb a.kind b.kind && (eqb a.payload b.payload && eq_list a.children b.children)) h in
    let (h₂, g₂) = T_and (eqb a.kind b.kind) (eqb a.payload b.payload && eq_list a.children b.children) g in
    let (h₃, h₄) = T_and (eqb a.payload b.payload) (eq_list a.children b.children) g₂ in
    λ i. record { symbol = eqb→eq a.symbol b.symbol h₁ i; kind = eqb→eq a.kind b.kind h₂ i; payload = eqb→eq a.payload b.payload h₃ i; children = eq_list→eq a.children b.children h₄ i }

pub eq_row_refl : (a : Row) → T (eq_row a a)
eq_row_refl a = and_T (eqb a.symbol a.symbol) _ (eqb_refl a.symbol) (and_T (eqb a.kind a.kind) _ (eqb_refl a.kind) (and_T (eqb a.payload a.payload) _ (eqb_refl a.payload) (eq_list_refl a.children)))

-- what the scan finds: the row, or that there is none
abbrev pub Found : Row → List Row → Option ℕ → Type 0
Found r rows (some i) = (i < length rows) × (row_at rows i ≡ r)
Found r rows none = (i : ℕ) → i < length rows → row_at rows i ≡ r → ⊥

pub find_ok : (r : Row) (rows : List Row) → Found r rows (find_row r rows)
find_ok r [] = λ i l e. omega arith
find_ok r (x ∷ rows) = go (eq_row r x) refl (find_row r rows) (find_ok r rows)
  where
    go : (b : Bool) → eq_row r x ≡ b → (o : Option ℕ) → Found r rows o → Found r (x ∷ rows) (cond b (some 0) (Option.map suc o))
    go true e o h = (omega arith, sym (eq_row→eq r x (rw e tt)))
    go false e (some i) h = (omega arith, h.1)
    go false e none h = elim [ zero ↦ λ l q. rw e at (subst (λ z. T (eq_row r z)) (sym q) (eq_row_refl r)) | suc j ↦ λ l q. h j (omega arith) q ]

module _ (rows more : List Row) (lower : Lower rows) where
  row_kept : (i : ℕ) → i < length rows → row_at (rows ++ more) i ≡ row_at rows i
  row_kept i l = get_or-append rows more no_row i l

  pub tree_kept : (n i : ℕ) → i < length rows → tree_in (rows ++ more) n i ≡ tree_in rows n i
  tree_kept zero i l = refl
  tree_kept (suc n) i l =
      rw (row_kept i l)
      (ap (λ ts. node (row_at rows i).symbol (row_at rows i).kind (row_at rows i).payload (forest ts))
      (map_same (tree_in (rows ++ more) n) (tree_in rows n) (row_at rows i).children (λ j m. let b = lower i l j m in tree_kept n j (omega arith))))

-- one row more
module _ (rows : List Row) (lower : Lower rows) (r : Row) where
  pub len : length (rows ++ r ∷ []) ≡ suc (length rows)
  len = length-append rows (r ∷ []) ∙ omega arith

  pub new_row : row_at (rows ++ r ∷ []) (length rows) ≡ r
  new_row = get_or-append_seam rows r [] no_row

  old_row : (i : ℕ) → i < length rows → row_at (rows ++ r ∷ []) i ≡ row_at rows i
  old_row = row_kept rows (r ∷ []) lower

  pub more_lower : ((j : ℕ) → In j r.children → j < length rows) → Lower (rows ++ r ∷ [])
  more_lower h i l j m =
      ⊎_elim
      (λ e. subst (j <◌) (sym e) (h j (subst (λ (z : Row). In j z.children) (ap (row_at (rows ++ r ∷ [])) e ∙ new_row) m)))
      (λ g. lower i g j (subst (λ (z : Row). In j z.children) (old_row i g) m))
      (eq-or-lt_of_le (le_of_suc-le-suc (subst (i <◌) len l)))

module _ (rows : List Row) (lower : Lower rows) (distinct : Distinct rows) (r : Row) where
  more_distinct : ((i : ℕ) → i < length rows → row_at rows i ≡ r → ⊥) → Distinct (rows ++ r ∷ [])
  more_distinct h i j li lj e =
      ⊎_elim
      (λ ei. ⊎_elim (λ ej. ei ∙ sym ej) (λ gj. absurd (h j gj (sym (old_row rows lower r j gj) ∙ sym e ∙ ap (row_at (rows ++ r ∷ [])) ei ∙ new_row rows lower r))) (place j lj))
      (λ gi. ⊎_elim (λ ej. absurd (h i gi (sym (old_row rows lower r i gi) ∙ e ∙ ap (row_at (rows ++ r ∷ [])) ej ∙ new_row rows lower r))) (λ gj. distinct i j gi gj (sym (old_row rows lower r i gi) ∙ e ∙ old_row rows lower r j gj)) (place j lj))
      (place i li)
    where
      place : (i : ℕ) → i < length (rows ++ r ∷ []) → (i ≡ length rows) ⊎ (i < length rows)
      place i l = eq-or-lt_of_le (le_of_suc-le-suc (subst (i <◌) (len rows lower r) l))

forest_trees : (f : Forest) → forest (trees f) ≡ f
forest_trees fnil = refl
forest_trees (fcons t f) = ap (fcons t) (forest_trees f)

-- a table that goes on from `rows`, and whose new trees have P
pub record From (P : Tree → Type 0) (rows rows' : List Row) : Type 0 where
  pub more : List Row
  pub is : rows' ≡ rows ++ more
  pub lower : Lower rows'
  pub distinct : Distinct rows'
  pub new : (i : ℕ) → length rows ≤ i → i < length rows' → P (tree_at rows' i)

pub record TreeIn (P : Tree → Type 0) (rows : List Row) (t : Tree) (out : List Row × ℕ) : Type 0 where
  pub from : From P rows out.0
  pub at_row : out.1 < length out.0
  pub tree : tree_at out.0 out.1 ≡ t

pub record ForestIn (P : Tree → Type 0) (rows : List Row) (f : Forest) (out : List Row × List ℕ) : Type 0 where
  pub from : From P rows out.0
  pub at_rows : (j : ℕ) → In j out.1 → j < length out.0
  pub forest_is : map (tree_at out.0) out.1 ≡ trees f

-- the tree of a row with the given children
pub tree_of_lem : (rows : List Row) → Lower rows → (s k p : ℕ) (f : Forest) (js : List ℕ) → map (tree_at rows) js ≡ trees f → (i : ℕ) → i < length rows → row_at rows i ≡ record { symbol = s; kind = k; payload = p; children = js } → tree_at rows i ≡ node s k p f
tree_of_lem rows lower s k p f js e i l er =
    tree_eq rows lower i l
    ∙ ap (λ (r : Row). node r.symbol r.kind r.payload (forest (map (tree_at rows) r.children))) er
    ∙ ap (λ ts. node s k p (forest ts)) e
    ∙ ap (node s k p) (forest_trees f)

kept_from : {P : Tree → Type 0} {rows rows' : List Row} → From P rows rows' → Lower rows → (i : ℕ) → i < length rows → tree_at rows' i ≡ tree_at rows i
kept_from {rows} g lower i l = ap (λ r. tree_at r i) g.is ∙ tree_kept rows g.more lower (suc i) i l

longer : {P : Tree → Type 0} {rows rows' : List Row} → From P rows rows' → length rows ≤ length rows'
longer {rows} g = omega (arith, ap length g.is, length-append rows g.more)

module _ (P : Tree → Type 0) where
  pub place_ok : (rows : List Row) (s k p : ℕ) (f : Forest) (rows' : List Row) (js : List ℕ) → P (node s k p f) → ForestIn P rows f (rows', js) → (o : Option ℕ) → Found (record { symbol = s; kind = k; payload = p; children = js }) rows' o → TreeIn P rows (node s k p f) (placed rows' (record { symbol = s; kind = k; payload = p; children = js }) o)
  place_ok rows s k p f rows' js hp F (some i) h = record { from = F.from; at_row = h.0; tree = tree_of_lem rows' F.from.lower s k p f js F.forest_is i h.0 h.1 }
  place_ok rows s k p f rows' js hp F none h =
      record {
        from =
            record {
              more = F.from.more ++ r ∷ [];
              is = ap (◌++ r ∷ []) F.from.is ∙ append_assoc rows F.from.more (r ∷ []);
              lower = low;
              distinct = more_distinct rows' F.from.lower F.from.distinct r h;
              new = λ i a b.
                  ⊎_elim
                  (λ e. subst P (sym (ap (tree_at (rows' ++ r ∷ [])) e ∙ top)) hp)
                  (λ g. subst P (sym (tree_kept rows' (r ∷ []) F.from.lower (suc i) i g)) (F.from.new i a g))
                  (eq-or-lt_of_le (le_of_suc-le-suc (subst (i <◌) more_len b)));
            };
        at_row = omega (arith, more_len);
        tree = top;
      }
    where
      r : Row
      r = record { symbol = s; kind = k; payload = p; children = js }

      more_len : length (rows' ++ r ∷ []) ≡ suc (length rows')
      more_len = len rows' F.from.lower r

      low : Lower (rows' ++ r ∷ [])
      low = more_lower rows' F.from.lower r F.at_rows

      top : tree_at (rows' ++ r ∷ []) (length rows') ≡ node s k p f
      top =
          tree_of_lem (rows' ++ r ∷ []) low s k p f js
          (map_same (tree_at (rows' ++ r ∷ [])) (tree_at rows') js (λ j m. tree_kept rows' (r ∷ []) F.from.lower (suc j) j (F.at_rows j m)) ∙ F.forest_is)
          (length rows') (omega (arith, more_len)) (new_row rows' F.from.lower r)

  cons_ok : (rows : List Row) (t : Tree) (f : Forest) (o₁ : List Row × ℕ) (o₂ : List Row × List ℕ) → TreeIn P rows t o₁ → ForestIn P o₁.0 f o₂ → ForestIn P rows (fcons t f) (o₂.0, o₁.1 ∷ o₂.1)
  cons_ok rows t f o₁ o₂ T₁ F =
      record {
        from =
            record {
              more = T₁.from.more ++ F.from.more;
              is = F.from.is ∙ ap (◌++ F.from.more) T₁.from.is ∙ append_assoc rows T₁.from.more F.from.more;
              lower = F.from.lower;
              distinct = F.from.distinct;
              new = λ i a b. new' i a b (dec_lt i (length o₁.0));
            };
        at_rows = λ j m. ⊎_elim (λ e. rw e (omega (arith, T₁.at_row, longer F.from))) (F.at_rows j) (in_cons m);
        forest_is = cc (kept_from F.from T₁.from.lower o₁.1 T₁.at_row, T₁.tree, F.forest_is);
      }
    where
      new' : (i : ℕ) → length rows ≤ i → i < length o₂.0 → Dec (i < length o₁.0) → P (tree_at o₂.0 i)
      new' i a b (yes l) = subst P (sym (kept_from F.from T₁.from.lower i l)) (T₁.from.new i a l)
      new' i a b (no l) = F.from.new i (omega arith) b

  mutual
    unfolding add_tree

    pub tree_in_lem : (t : Tree) → ((p : List ℕ) (u : Tree) → at t p ≡ some u → P u) → (rows : List Row) → Lower rows → Distinct rows → TreeIn P rows t (add_tree t rows)
    tree_in_lem (node s k p f) h rows lower distinct =
        let o = add_forest f rows in
        let r : Row = record { symbol = s; kind = k; payload = p; children = o.1 } in
        place_ok rows s k p f o.0 o.1 (h [] (node s k p f) refl) (forest_in f (λ j q. h (j ∷ q)) rows lower distinct) (find_row r o.0) (find_ok r o.0)

    pub forest_in : (f : Forest) → ((j : ℕ) (p : List ℕ) (u : Tree) → at_in f j p ≡ some u → P u) → (rows : List Row) → Lower rows → Distinct rows → ForestIn P rows f (add_forest f rows)
    forest_in fnil h rows lower distinct =
        record {
          from = record { more = []; is = sym (append-nil rows); lower = lower; distinct = distinct; new = λ i a b. let z : ⊥ = omega arith in absurd z };
          at_rows = λ j m. absurd (not-nil m);
          forest_is = refl;
        }
    forest_in (fcons t f) h rows lower distinct =
        let o = add_tree t rows in
        let T₁ = tree_in_lem t (h 0) rows lower distinct in
        cons_ok rows t f o (add_forest f o.0) T₁ (forest_in f (λ j. h (suc j)) o.0 T₁.from.lower T₁.from.distinct)

-- the root's row is new, since the trees of the rows before it have fewer levels; so it is the last
last_placed : (s k p : ℕ) (f : Forest) (rows' : List Row) (js : List ℕ) → ForestIn (λ u. levels u ≤ highest f) [] f (rows', js) → (o : Option ℕ) → Found (record { symbol = s; kind = k; payload = p; children = js }) rows' o → suc (placed rows' (record { symbol = s; kind = k; payload = p; children = js }) o).1 ≡ length (placed rows' (record { symbol = s; kind = k; payload = p; children = js }) o).0
unfolding levels
last_placed s k p f rows' js F (some i) h =
    let c = F.from.new i (omega arith) h.0 in
    let e = ap levels (tree_of_lem rows' F.from.lower s k p f js F.forest_is i h.0 h.1) in
    let z : ⊥ = omega arith in
    absurd z
last_placed s k p f rows' js F none h = sym (len rows' F.from.lower (record { symbol = s; kind = k; payload = p; children = js }))

pub no_rows : Lower []
no_rows i l = let z : ⊥ = omega arith in absurd z

pub no_pair : Distinct []
no_pair i j l = let z : ⊥ = omega arith in absurd z

last : (t : Tree) → suc (add_tree t []).1 ≡ length (add_tree t []).0
unfolding add_tree
last (node s k p f) =
    let o = add_forest f [] in
    let r : Row = record { symbol = s; kind = k; payload = p; children = o.1 } in
    last_placed s k p f o.0 o.1 (forest_in (λ u. levels u ≤ highest f) f (below_levels f) [] no_rows no_pair) (find_row r o.0) (find_ok r o.0)

-- what the table of a tree has: the last row is the root's, and each row is a subtree's
pub record Table (rows : List Row) (t : Tree) : Type 0 where
  pub some_row : 0 < length rows
  pub lower : Lower rows
  pub distinct : Distinct rows
  pub used : AllUsed rows
  pub tree : tree_of rows ≡ t
  pub subtrees : (i : ℕ) → i < length rows → (p : List ℕ) × (at t p ≡ some (tree_at rows i))

-- a row that is not the last, and whose tree stands in the last row's, is the child of a later one
module _ (rows : List Row) (lower : Lower rows) (distinct : Distinct rows) where
  abbrev UsedIn : ℕ → Type 0
  UsedIn i = (j : ℕ) × (i < j) × (j < length rows) × In i (row_at rows j).children

  is_used : (p : List ℕ) (m i : ℕ) → m < length rows → i < length rows → at (tree_at rows m) p ≡ some (tree_at rows i) → (m ≡ i) ⊎ UsedIn i
  is_used [] m i lm li e = inl (one_tree rows lower distinct (suc m) m i (omega arith) lm li (some-injective _ _ e))
  is_used (c ∷ p) m i lm li e =
      let (lc, e') = below rows lower m lm c p (tree_at rows i) e in
      let k : ℕ = get_or (row_at rows m).children c 0 in
      let ik = in_get_d 0 (row_at rows m).children c lc in
      let lk = lower m lm k ik in
      ⊎_elim (λ q. inr (m, subst (◌< m) q lk, lm, subst (λ z. In z (row_at rows m).children) q ik)) inr (is_used p k i (omega arith) li e')

  all_used : ((i : ℕ) → i < length rows → (p : List ℕ) × (at (tree_of rows) p ≡ some (tree_at rows i))) → AllUsed rows
  all_used h i l =
      let (p, e) = h i (omega arith) in
      ⊎_elim (λ q. let z : ⊥ = omega arith in absurd z) (λ u. u) (is_used p (length rows - 1) i (omega arith) (omega arith) e)

-- THE THEOREM
pub table : (t : Tree) → Table (rows_of t) t
unfolding rows_of
table t =
    let w = tree_in_lem (λ u. (p : List ℕ) × (at t p ≡ some u)) t (λ p u e. (p, e)) [] no_rows no_pair in
    let e : length (add_tree t []).0 - 1 ≡ (add_tree t []).1 = omega (arith, last t) in
    let is : tree_of (add_tree t []).0 ≡ t = ap (tree_at (add_tree t []).0) e ∙ w.tree in
    let sub : (i : ℕ) → i < length (add_tree t []).0 → (p : List ℕ) × (at t p ≡ some (tree_at (add_tree t []).0 i)) = λ i. w.from.new i (omega arith) in
    record {
      some_row = omega (arith, last t);
      lower = w.from.lower;
      distinct = w.from.distinct;
      used = all_used (add_tree t []).0 w.from.lower w.from.distinct (λ i l. let (p, q) = sub i l in (p, ap (λ z. at z p) is ∙ q));
      tree = is;
      subtrees = sub;
    }
