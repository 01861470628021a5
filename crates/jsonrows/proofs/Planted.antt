-- Rows that are finished one after the other are those that the table of a tree gets: what was read, row by row, is a tree that was added. Assumes nothing.
use mathlib.Core.Path.{◌≡◌, refl, sym, ap, subst, ◌∙◌}
use mathlib.Core.Bool.{Bool, true, false, cond}
use mathlib.Core.List.{List, [], ◌∷◌, ◌++◌}
use mathlib.Core.Option.{Option, none, some}
use Prim.Native.Nat.{ℕ, suc, ◌-◌, ◌<◌, ◌≤◌}
use native.Mathlib.Omega.{arith}
use borrow.Author.Tests.{ltb-true, lt-ltb}
use lib.Dec.{ltb}
use lib.ListN.{length, length-append}
use Rattle.model.specs.Tree.{Tree, node, forest, levels, highest}
use Rattle.model.specs.Table.{Row}
use Rattle.model.specs.Build.{find_row, placed, add_row, add_tree, add_forest}
use Rattle.model.proofs.Build.{Found, find_ok}
use Rattle.model.proofs.Levels.{larger_least, larger_bounds}
use Rattle.document.specs.declared.scalar.Scalar.{Scalar}
use Rattle.jsonrows.specs.Value.{leaf_tree, node_tree}
use Rattle.jsonrows.specs.Grammar.{Built, built, Outcome, good, refused, leaf_row, node_row, place_row, finish}

-- what was read passes a test; a refusal has one of document 02's numbers, none above 74
pub data Gives (P : ℕ → ℕ → Built → Type 0) : Outcome → Type 0 where
  gives : {j n : ℕ} {b : Built} → P j n b → Gives P (good j n b)
  gives_none : {w p : ℕ} → w ≤ 74 → Gives P (refused w p)

-- what is known of an outcome that is known
pub given_is : (P : ℕ → ℕ → Built → Type 0) (j n : ℕ) (b : Built) {o : Outcome} → o ≡ good j n b → Gives P o → P j n b
given_is P j n b q (gives {j = i} {n = m} {b = a} h) =
    let x : i ≡ j = cc in
    let y : m ≡ n = cc in
    let z : a ≡ b = cc in
    subst (λ w. w) (λ k. P (x k) (y k) (z k)) h
given_is P j n b q (gives_none l) = let z : ⊥ = cc in absurd z

-- what follows from a test that was passed
pub gives_as : (P Q : ℕ → ℕ → Built → Type 0) {o : Outcome} → ((j n : ℕ) (b : Built) → P j n b → Q j n b) → Gives P o → Gives Q o
gives_as P Q f (gives h) = gives (f _ _ _ h)
gives_as P Q f (gives_none l) = gives_none l

-- a row was found or added, before the place `next`
pub record Ended (limit : ℕ) (r : Row) (next : ℕ) (b : Built) (j n : ℕ) (after : Built) : Type 0 where
  pub place : n ≡ next
  pub row : add_row b.rows r ≡ (after.rows, j)
  pub texts : after.texts ≡ b.texts
  pub inside : j < length after.rows
  pub few : length b.rows ≤ limit → length after.rows ≤ limit

module _ (limit : ℕ) (r : Row) (next : ℕ) (b : Built) where
  place_gives : (o : Option ℕ) → find_row r b.rows ≡ o → Found r b.rows o → Gives (Ended limit r next b) (place_row limit r next b o)
  place_gives (some i) q h = gives (record { place = refl; row = ap (placed b.rows r) q; texts = refl; inside = h.0; few = λ l. l })
  place_gives none q h = go (ltb (length b.rows) limit) refl
    where
      go : (c : Bool) → ltb (length b.rows) limit ≡ c → Gives (Ended limit r next b) (cond c (good (length b.rows) next (built (b.rows ++ r ∷ []) b.texts)) (refused 67 (next - 1)))
      go true f =
          let k = length-append b.rows (r ∷ []) in
          let m = ltb-true (length b.rows) limit f in
          gives (record { place = refl; row = ap (placed b.rows r) q; texts = refl; inside = omega arith; few = λ l. omega arith })
      go false f = gives_none {w = 67} (omega arith)

  -- what finishing a row gives
  pub finish_gives : Gives (Ended limit r next b) (finish limit r next b)
  unfolding finish
  finish_gives = place_gives (find_row r b.rows) refl (find_ok r b.rows)

  place_room : (o : Option ℕ) → length (placed b.rows r o).0 ≤ limit → place_row limit r next b o ≡ good (placed b.rows r o).1 next (built (placed b.rows r o).0 b.texts)
  place_room (some i) l = refl
  place_room none l =
      let k = length-append b.rows (r ∷ []) in
      let e : ltb (length b.rows) limit ≡ true = lt-ltb (length b.rows) limit (omega arith) in
      ap (λ c. cond c (good (length b.rows) next (built (b.rows ++ r ∷ []) b.texts)) (refused 67 (next - 1))) e

  -- and where there is room it gives that
  pub finish_room : length (add_row b.rows r).0 ≤ limit → finish limit r next b ≡ good (add_row b.rows r).1 next (built (add_row b.rows r).0 b.texts)
  unfolding finish
  finish_room l = place_room (find_row r b.rows) l

-- trees of at most l levels were added, and have these rows
pub record Grown (limit : ℕ) (ts : List Tree) (l : ℕ) (rows : List Row) (js : List ℕ) (after : List Row) : Type 0 where
  pub added : add_forest (forest ts) rows ≡ (after, js)
  pub low : highest (forest ts) ≤ l
  pub few : length rows ≤ limit → length after ≤ limit

-- a tree of at most l levels was added, and has row j; with it the texts by number
pub record Planted (limit : ℕ) (p : Tree × List (List ℕ)) (l : ℕ) (b : Built) (j : ℕ) (after : Built) : Type 0 where
  pub added : add_tree p.0 b.rows ≡ (after.rows, j)
  pub texts : p.1 ≡ after.texts
  pub low : levels p.0 ≤ l
  pub inside : j < length after.rows
  pub few : length b.rows ≤ limit → length after.rows ≤ limit

-- no tree yet
pub grown_none : (limit l : ℕ) (rows : List Row) → Grown limit [] l rows [] rows
unfolding add_tree levels
grown_none limit l rows = record { added = refl; low = omega arith; few = λ m. m }

-- a tree behind others
add_snoc : (ts : List Tree) (x : Tree) (rows : List Row) → add_forest (forest (ts ++ x ∷ [])) rows ≡ ((add_tree x (add_forest (forest ts) rows).0).0, (add_forest (forest ts) rows).1 ++ (add_tree x (add_forest (forest ts) rows).0).1 ∷ [])
unfolding add_tree
add_snoc [] x rows = refl
add_snoc (t ∷ ts) x rows = ap (λ p. (p.0, (add_tree t rows).1 ∷ p.1)) (add_snoc ts x (add_tree t rows).0)

high_snoc : (ts : List Tree) (x : Tree) (l : ℕ) → highest (forest ts) ≤ l → levels x ≤ l → highest (forest (ts ++ x ∷ [])) ≤ l
unfolding levels
high_snoc [] x l a b = larger_least (levels x) 0 l b a
high_snoc (t ∷ ts) x l a b =
    let k = larger_bounds (levels t) (highest (forest ts)) in
    larger_least (levels t) (highest (forest (ts ++ x ∷ []))) l (omega arith) (high_snoc ts x l (omega arith) b)

module _ (limit l : ℕ) where
  pub grown_more : {ts : List Tree} {rows : List Row} {js : List ℕ} {b : Built} → Grown limit ts l rows js b.rows → {p : Tree × List (List ℕ)} {v : ℕ} {after : Built} → Planted limit p l b v after → Grown limit (ts ++ p.0 ∷ []) l rows (js ++ v ∷ []) after.rows
  grown_more {ts} {rows} {js} {b} g {p} {v} {after} h =
      record {
        added = add_snoc ts p.0 rows ∙ ap (λ q. ((add_tree p.0 q.0).0, q.1 ++ (add_tree p.0 q.0).1 ∷ [])) g.added ∙ ap (λ q. (q.0, js ++ q.1 ∷ [])) h.added;
        low = high_snoc ts p.0 l g.low h.low;
        few = λ m. h.few (g.few m);
      }

  -- a node over them
  pub node_planted : {ts : List Tree} {js : List ℕ} {b more : Built} → Grown limit ts l b.rows js more.rows → {s next j n : ℕ} {after : Built} → Ended limit (node_row s js) next more j n after → Planted limit (node_tree s ts, more.texts) (suc l) b j after
  unfolding add_tree levels
  node_planted g {s = s} h =
      record {
        added = ap (λ q. add_row q.0 (node_row s q.1)) g.added ∙ h.row;
        texts = sym h.texts;
        low = omega (arith, g.low);
        inside = h.inside;
        few = λ m. h.few (g.few m);
      }

-- a leaf
pub leaf_planted : (limit l s : ℕ) (k : Scalar) → 0 < l → {b : Built} {next j n : ℕ} {after : Built} → Ended limit (leaf_row s k) next b j n after → Planted limit (leaf_tree s k, b.texts) l b j after
unfolding add_tree levels
leaf_planted limit l s k z h = record { added = h.row; texts = sym h.texts; low = omega arith; inside = h.inside; few = h.few }

-- every tree has a level
pub some_level : (x : Tree) → 0 < levels x
unfolding levels
some_level (node s k p f) = omega arith
