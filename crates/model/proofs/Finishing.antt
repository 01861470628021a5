-- The rows of a tree are in left-to-right order of first finishing, and no other table of it is. Assumes nothing.
use mathlib.Core.Path.{◌≡◌, refl, sym, ap, ◌∙◌, subst}
use mathlib.Core.Logic.{inl, inr, ◌↔◌}
use mathlib.Core.Option.{Option, none, some}
use mathlib.Core.List.Memᴰ
use mathlib.Core.List.{List, [], ◌∷◌, ◌++◌, append_assoc, append-nil, Memᴰ as In}
use Prim.Native.Nat.{ℕ, suc, ◌<◌}
use native.Mathlib.Omega.{arith}
use lib.ListN.{length, get_or}
use lib.Seq.{ext_get_or}
use Rattle.model.specs.Lists.{tab}
use Rattle.model.specs.Tree.{Tree, Forest, node, fnil, fcons, children_of, symbol_of}
use Rattle.model.specs.Table.{Row, no_row, row_at, no_tree, tree_at, tree_of, Lower, Distinct}
use Rattle.model.specs.Build.{find_row, placed, add_tree, add_forest, rows_of, finished, finished_in, Firsts, FirstFinishing}
use Rattle.model.proofs.Tab.{tab_at, length_tab, in_tab, tab_in, tab_same, tab_snoc}
use Rattle.model.proofs.Rows.{map_inj, kind_of, payload_of, kids_tree, one_tree}
use Rattle.model.proofs.Members.{map_same}
use Rattle.model.proofs.Build.{Found, find_ok, place_ok, tree_kept, len, tree_of_lem, TreeIn, ForestIn, tree_in_lem, forest_in, no_rows, no_pair, table}

-- two walks one after the other
firsts_append : (us seen ts vs ws : List Tree) → Firsts seen us ts → Firsts (seen ++ ts) vs ws → Firsts seen (us ++ vs) (ts ++ ws)
firsts_append [] seen ts vs ws e g = subst (λ z. Firsts seen vs (z ++ ws)) (sym e) (subst (λ z. Firsts z vs ws) (ap (λ z. seen ++ z) e ∙ append-nil seen) g)
firsts_append (u ∷ us) seen ts vs ws (inl f) g = inl (f.0, firsts_append us seen ts vs ws f.1 g)
firsts_append (u ∷ us) seen ts vs ws (inr f) g =
    inr (f.0, f.1 ++ ws, ap (λ z. z ++ ws) f.2, firsts_append us (seen ++ u ∷ []) f.1 vs ws f.3 (subst (λ z. Firsts z vs ws) (ap (λ z. seen ++ z) f.2 ∙ sym (append_assoc seen (u ∷ []) f.1)) g))

-- what a walk finishes first is determined
firsts_same : (us seen ts ts' : List Tree) → Firsts seen us ts → Firsts seen us ts' → ts ≡ ts'
firsts_same [] seen ts ts' e e' = e ∙ sym e'
firsts_same (u ∷ us) seen ts ts' (inl f) (inl g) = firsts_same us seen ts ts' f.1 g.1
firsts_same (u ∷ us) seen ts ts' (inl f) (inr g) = absurd (g.0 f.0)
firsts_same (u ∷ us) seen ts ts' (inr f) (inl g) = absurd (f.0 g.0)
firsts_same (u ∷ us) seen ts ts' (inr f) (inr g) = f.2 ∙ ap {B = List Tree} (λ l. u ∷ l) (firsts_same us (seen ++ u ∷ []) f.1 g.1 f.3 g.3) ∙ sym g.2

-- the trees of a table's rows
abbrev trees_of : List Row → List Tree
trees_of rows = tab (length rows) (tree_at rows)

-- the rows that a walk adds have the trees that it finishes first
abbrev Adds : List Row → List Tree → List Row → Type 0
Adds rows us rows' = (new : List Tree) × Firsts (trees_of rows) us new × (trees_of rows' ≡ trees_of rows ++ new)

adds_append : (rows rows₁ rows₂ : List Row) (us vs : List Tree) → Adds rows us rows₁ → Adds rows₁ vs rows₂ → Adds rows (us ++ vs) rows₂
adds_append rows rows₁ rows₂ us vs (new₁, f₁, e₁) (new₂, f₂, e₂) =
    (new₁ ++ new₂, firsts_append us (trees_of rows) new₁ vs new₂ f₁ (subst (λ z. Firsts z vs new₂) e₁ f₂), e₂ ∙ ap (λ z. z ++ new₂) e₁ ∙ append_assoc (trees_of rows) new₁ new₂)

abbrev Any : Tree → Type 0
Any u = Unit {0}

root_adds : (rows : List Row) (s k p : ℕ) (f : Forest) (rows' : List Row) (js : List ℕ) → ForestIn Any rows f (rows', js) → (o : Option ℕ) → Found (record { symbol = s; kind = k; payload = p; children = js }) rows' o → Adds rows' (node s k p f ∷ []) (placed rows' (record { symbol = s; kind = k; payload = p; children = js }) o).0
root_adds rows s k p f rows' js F (some i) h =
    ([], inl (Memᴰ.cast (sym (tree_of_lem rows' F.from.lower s k p f js F.forest_is i h.0 h.1)) (tab_in (length rows') (tree_at rows') i h.0), refl), sym (append-nil (trees_of rows')))
root_adds rows s k p f rows' js F none h = (node s k p f ∷ [], inr (fresh, [], refl, refl), more)
  where
    r : Row
    r = record { symbol = s; kind = k; payload = p; children = js }

    W : TreeIn Any rows (node s k p f) (rows' ++ r ∷ [], length rows')
    W = place_ok Any rows s k p f rows' js tt F none h

    kept : (i : ℕ) → i < length rows' → tree_at (rows' ++ r ∷ []) i ≡ tree_at rows' i
    kept i l = tree_kept rows' (r ∷ []) F.from.lower (suc i) i l

    more : trees_of (rows' ++ r ∷ []) ≡ trees_of rows' ++ node s k p f ∷ []
    more =
        ap (λ n. tab n (tree_at (rows' ++ r ∷ []))) (len rows' F.from.lower r)
        ∙ tab_snoc (length rows') (tree_at (rows' ++ r ∷ []))
        ∙ cc (tab_same (length rows') (tree_at (rows' ++ r ∷ [])) (tree_at rows') kept, W.tree)

    fresh : In (node s k p f) (trees_of rows') → ⊥
    fresh m =
        let (i, l, e) = in_tab (length rows') (tree_at rows') m in
        let longer : length (rows' ++ r ∷ []) ≡ suc (length rows') = len rows' F.from.lower r in
        let q = one_tree (rows' ++ r ∷ []) W.from.lower W.from.distinct (suc i) i (length rows') (omega arith) (omega arith) W.at_row (kept i l ∙ sym e ∙ sym W.tree) in
        omega arith

mutual
  unfolding add_tree finished

  tree_adds : (t : Tree) (rows : List Row) → Lower rows → Distinct rows → Adds rows (finished t) (add_tree t rows).0
  tree_adds (node s k p f) rows lower distinct =
      let o = add_forest f rows in
      let r : Row = record { symbol = s; kind = k; payload = p; children = o.1 } in
      adds_append rows o.0 (placed o.0 r (find_row r o.0)).0 (finished_in f) (node s k p f ∷ []) (forest_adds f rows lower distinct)
      (root_adds rows s k p f o.0 o.1 (forest_in Any f (λ j q u e. tt) rows lower distinct) (find_row r o.0) (find_ok r o.0))

  forest_adds : (f : Forest) (rows : List Row) → Lower rows → Distinct rows → Adds rows (finished_in f) (add_forest f rows).0
  forest_adds fnil rows lower distinct = ([], refl, sym (append-nil (trees_of rows)))
  forest_adds (fcons t f) rows lower distinct =
      let o = add_tree t rows in
      let T₁ = tree_in_lem Any t (λ q u e. tt) rows lower distinct in
      adds_append rows o.0 (add_forest f o.0).0 (finished t) (finished_in f) (tree_adds t rows lower distinct) (forest_adds f o.0 T₁.from.lower T₁.from.distinct)

walk : (t : Tree) → Firsts [] (finished t) (trees_of (rows_of t))
unfolding rows_of
walk t = let (new, f, e) = tree_adds t [] no_rows no_pair in subst (Firsts [] (finished t)) (sym e) f

-- THE ROWS OF A TREE ARE IN ORDER OF FIRST FINISHING
pub in_order : (t : Tree) → FirstFinishing (rows_of t)
in_order t = subst (λ z. Firsts [] (finished z) (trees_of (rows_of t))) (sym (table t).tree) (walk t)

-- tables with the same trees, row by row, are the same
module _ (rows rows' : List Row) (lower : Lower rows) (lower' : Lower rows') (distinct : Distinct rows) (same : trees_of rows ≡ trees_of rows') where
  as_many : length rows ≡ length rows'
  as_many = sym (length_tab (length rows) (tree_at rows)) ∙ ap length same ∙ length_tab (length rows') (tree_at rows')

  tree_same : (i : ℕ) → i < length rows → tree_at rows i ≡ tree_at rows' i
  tree_same i l = sym (tab_at no_tree (length rows) (tree_at rows) i l) ∙ ap (λ ts. get_or ts i no_tree) same ∙ tab_at no_tree (length rows') (tree_at rows') i (subst (i <◌) as_many l)

  kids_same : (i : ℕ) → i < length rows → (row_at rows i).children ≡ (row_at rows' i).children
  kids_same i l =
      let l' : i < length rows' = subst (i <◌) as_many l in
      map_inj (tree_at rows) (row_at rows i).children (row_at rows' i).children
      (λ a b ia ib q.
      let la = lower i l a ia in
      let lb = lower' i l' b ib in
      one_tree rows lower distinct (suc a) a b (omega arith) (omega arith) (omega arith) q)
      (sym (kids_tree rows lower i l) ∙ ap children_of (tree_same i l) ∙ kids_tree rows' lower' i l' ∙ sym (map_same (tree_at rows) (tree_at rows') (row_at rows' i).children (λ b ib. let lb = lower' i l' b ib in tree_same b (omega arith))))

  rows_same : rows ≡ rows'
  rows_same =
      ext_get_or no_row rows rows' as_many
      (λ i l. let e = tree_same i l in λ x. record { symbol = ap symbol_of e x; kind = ap kind_of e x; payload = ap payload_of e x; children = kids_same i l x })

-- A TABLE IS IN ORDER EXACTLY WHERE BUILDING IT AGAIN FROM ITS TREE CHANGES NOTHING
pub order_exactly : (rows : List Row) → Lower rows → Distinct rows → FirstFinishing rows ↔ (rows_of (tree_of rows) ≡ rows)
order_exactly rows lower distinct = (
  λ h. let T = table (tree_of rows) in rows_same (rows_of (tree_of rows)) rows T.lower lower T.distinct (firsts_same (finished (tree_of rows)) [] (trees_of (rows_of (tree_of rows))) (trees_of rows) (walk (tree_of rows)) h),
  λ e. subst FirstFinishing e (in_order (tree_of rows)),
)
