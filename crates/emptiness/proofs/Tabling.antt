-- Adding the tree of a state to the table, by the rule that marks it: the state is known already, or its children are added and then its own row. Assumes nothing.
use mathlib.Core.Path.{◌≡◌, refl, sym, ap, ◌∙◌, subst}
use mathlib.Core.List.Memᴰ.{cases_cons as in_cons}
use mathlib.Core.List.Memᴰ.{not-nil}
use mathlib.Core.List.{List, [], ◌∷◌, map, Memᴰ as In}
use mathlib.Core.Logic.{⊎_elim}
use mathlib.Core.Option.{Option, none, some, some-injective, none-ne-some}
use Prim.Native.Nat.{ℕ, zero, suc, ◌+◌, ◌*◌, ◌-◌, ◌<◌, ◌≤◌}
use native.Mathlib.Numerals.{add-one}
use native.Mathlib.Decide.{ℕ_discrete}
use native.Mathlib.Omega.{arith}
use lib.ListN.{length, get_or, drop, length-append, length-drop}
use lib.Seq.{drop-cons}
use Rattle.model.specs.Limits.{unused}
use Rattle.model.specs.Tree.{Tree, node, forest, levels}
use Rattle.model.specs.Automaton.{Rule, Automaton, arity_of}
use Rattle.model.specs.Sound.{Sound}
use Rattle.model.specs.Order.{place}
use Rattle.model.specs.Written.{rule_at, no_rule}
use Rattle.model.specs.Table.{Row, tree_at, no_tree, Distinct}
use Rattle.model.specs.Build.{add_tree, add_forest}
use Rattle.model.specs.Witness.{trees_in, rounds}
use Rattle.model.proofs.Tab.{tab_at, length_tab}
use Rattle.model.proofs.Rows.{in_get_d}
use Rattle.model.proofs.Witness.{then_some}
use Rattle.model.proofs.Rounds.{in_states}
use Rattle.document.specs.Rows.{row_cells, row_in, rows_below, encode_rows}
use Rattle.document.proofs.Encoding.{length_encode}
use Rattle.emptiness.specs.Marking.{MadeBy, Made}
use Rattle.emptiness.specs.Building.{Tabled, Job, Done, Builds}
use Rattle.emptiness.proofs.Adding.{forest_longer, forest_first, tree_then, kid_levels, node_levels, tree_there}

abbrev pub Any : Tree → Type 0
Any u = Unit {0}

-- the trees of marked states, one by one
pub trees_long : (M : List (Option Tree)) (cs : List ℕ) (ts : List Tree) → trees_in M cs ≡ some ts → length ts ≡ length cs
trees_long M [] ts e = sym (ap length (some-injective _ _ e))
trees_long M (c ∷ cs) ts e =
    let (t, et, e₁) = then_some (get_or M c none) _ e in
    let (us, eu, e₂) = then_some (trees_in M cs) _ e₁ in
    sym (ap length (some-injective _ _ e₂)) ∙ ap suc (trees_long M cs us eu)

trees_at : (M : List (Option Tree)) (cs : List ℕ) (ts : List Tree) → trees_in M cs ≡ some ts → (k : ℕ) → k < length cs → get_or M (get_or cs k unused) none ≡ some (get_or ts k no_tree)
trees_at M [] ts e k l = let z : ⊥ = omega arith in absurd z
trees_at M (c ∷ cs) ts e zero l =
    let (t, et, e₁) = then_some (get_or M c none) _ e in
    let (us, eu, e₂) = then_some (trees_in M cs) _ e₁ in
    et ∙ ap (λ l. some (get_or l 0 no_tree)) (some-injective _ _ e₂)
trees_at M (c ∷ cs) ts e (suc k) l =
    let (t, et, e₁) = then_some (get_or M c none) _ e in
    let (us, eu, e₂) = then_some (trees_in M cs) _ e₁ in
    trees_at M cs us eu k (omega arith) ∙ ap (λ l. some (get_or l (suc k) no_tree)) (some-injective _ _ e₂)

-- maps of the states to what the memo has, and of that to the trees
pub map_at : (f : ℕ → ℕ) (cs : List ℕ) (k d : ℕ) → k < length cs → get_or (map f cs) k d ≡ f (get_or cs k d)
map_at f [] k d l = let z : ⊥ = omega arith in absurd z
map_at f (c ∷ cs) zero d l = refl
map_at f (c ∷ cs) (suc k) d l = map_at f cs k d (omega arith)

pub map_trees : (M : List (Option Tree)) (f : ℕ → ℕ) (g : ℕ → Tree) (cs : List ℕ) (ts : List Tree) → trees_in M cs ≡ some ts → ((k : ℕ) → k < length cs → get_or M (get_or cs k unused) none ≡ some (g (f (get_or cs k unused)))) → map g (map f cs) ≡ ts
map_trees M f g [] ts e h = some-injective _ _ e
map_trees M f g (c ∷ cs) ts e h =
    let (t, et, e₁) = then_some (get_or M c none) _ e in
    let (us, eu, e₂) = then_some (trees_in M cs) _ e₁ in
    let a : g (f c) ≡ t = some-injective _ _ (sym (h 0 (omega arith)) ∙ et) in
    let b : map g (map f cs) ≡ us = map_trees M f g cs us eu (λ k l. h (suc k) (omega arith)) in
    let d : t ∷ us ≡ ts = some-injective _ _ e₂ in
    cc

pub map_in : (f : ℕ → ℕ) (cs : List ℕ) (P : ℕ → Type 0) → ((k : ℕ) → k < length cs → P (f (get_or cs k unused))) → (j : ℕ) → In j (map f cs) → P j
map_in f [] P h j m = absurd (not-nil m)
map_in f (c ∷ cs) P h j m = ⊎_elim (λ e. subst P (sym e) (h 0 (omega arith))) (map_in f cs P (λ k l. h (suc k) (omega arith)) j) (in_cons m)

module _ {A : Automaton} {N : ℕ} {base cells slots memo : List ℕ} {n : ℕ} (T : Tabled A N base cells slots memo n) where
  pub rows_long : length (rows_below cells n) ≡ n
  rows_long = length_tab n (row_in cells)

  pub distinct_rows : Distinct (rows_below cells n)
  distinct_rows i j li lj e =
      let l : i < n = omega (arith, rows_long) in
      let m : j < n = omega (arith, rows_long) in
      T.built.distinct i j l m (sym (tab_at _ n (row_in cells) i l) ∙ e ∙ tab_at _ n (row_in cells) j m)

  pub cells_long : n * row_cells ≤ length base → length cells ≡ length base
  cells_long l = ap length T.front ∙ length-append (encode_rows (rows_below cells n)) (drop (n * row_cells) base) ∙ omega (arith, length_encode (rows_below cells n), rows_long, length-drop (n * row_cells) base)

-- THE STATE IS KNOWN
pub known_already : (A : Automaton) (marks : List ℕ) (limit depth q : ℕ) (cells slots memo : List ℕ) (n x : ℕ) → x ≡ get_or memo q unused → (x ≡ unused → ⊥) → Builds A marks limit depth q cells slots memo n cells slots memo n
known_already A marks limit depth q cells slots memo n x e h = record {
  gives = λ N base t J.
      let R = J.tabled.rows q (λ z. h (e ∙ z)) in
      let same : t ≡ tree_at (rows_below cells n) (get_or memo q unused) = some-injective _ _ (sym J.tree_of ∙ R.tree) in
      record {
        tabled = J.tabled;
        rows = sym (ap (λ u. (add_tree u (rows_below cells n)).0) same ∙ ap (λ o. o.0) (tree_there (rows_below cells n) J.tabled.lower (distinct_rows J.tabled) (suc (get_or memo q unused)) (get_or memo q unused) (omega arith) R.inside));
        known = λ z. h (e ∙ z);
        stays = λ p k. k;
      };
}

module _ (A : Automaton) (marks : List ℕ) (limit depth q : ℕ) (cells slots memo : List ℕ) (n : ℕ) where
  -- a state without a mark, or a tree of no levels, is not asked for
  pub no_mark : (x : ℕ) → x ≡ get_or marks q 0 → x ≡ 0 → Builds A marks limit depth q cells slots memo n cells slots memo n
  no_mark x e h = record {
    gives = λ N base t J.
        absurd
        (none-ne-some t
        (sym (subst (Made A N (get_or (rounds A N) q none)) (sym e ∙ h) (J.marks_are.each q (in_states A N q t J.tree_of))) ∙ J.tree_of));
  }

  pub no_depth : depth ≡ 0 → Builds A marks limit depth q cells slots memo n cells slots memo n
  no_depth h = record { gives = λ N base t J. absurd (go t J.deep) }
    where
      go : (t : Tree) → levels t ≤ depth → ⊥
      go (node s k p f) l = omega (arith, node_levels s k p f)

-- after the first k children of rule r, whose trees are ts, were added to the rows that were there at first
pub record Mid (A : Automaton) (N : ℕ) (base : List ℕ) (r : Rule) (ts : List Tree) (rows₀ : List Row) (memo₀ : List ℕ) (k : ℕ) (cells slots memo : List ℕ) (n : ℕ) : Type 0 where
  pub tabled : Tabled A N base cells slots memo n
  pub rest : (add_forest (forest (drop k ts)) (rows_below cells n)).0 ≡ (add_forest (forest ts) rows₀).0
  pub met : (j : ℕ) → j < k → get_or memo (place r j) unused ≡ unused → ⊥
  pub stays : (p : ℕ) → (get_or memo₀ p unused ≡ unused → ⊥) → get_or memo p unused ≡ unused → ⊥

-- the loop over the children of rule i, wherever the tree of state q is asked for
pub record Loops (A : Automaton) (marks : List ℕ) (limit depth q i : ℕ) (cells₀ slots₀ memo₀ : List ℕ) (n₀ k : ℕ) (cells slots memo : List ℕ) (n : ℕ) : Type 0 where
  pub gives : (N : ℕ) (base : List ℕ) (t : Tree) → Job A marks limit depth q cells₀ slots₀ memo₀ n₀ N base t → (M : MadeBy A N (some t) i) → Mid A N base (rule_at A i) M.under (rows_below cells₀ n₀) memo₀ k cells slots memo n

module _ (A : Automaton) (marks : List ℕ) (limit depth q i : ℕ) (cells₀ slots₀ memo₀ : List ℕ) (n₀ : ℕ) where
  pub loops_start : Loops A marks limit depth q i cells₀ slots₀ memo₀ n₀ 0 cells₀ slots₀ memo₀ n₀
  loops_start = record { gives = λ N base t J M. record { tabled = J.tabled; rest = refl; met = λ j l. let z : ⊥ = omega arith in absurd z; stays = λ p h. h } }

  module _ (k w f : ℕ) (cells slots memo : List ℕ) (n : ℕ) (L : Loops A marks limit depth q i cells₀ slots₀ memo₀ n₀ k cells slots memo n) (ef : f ≡ (rule_at A i).symbol) (ew : w ≡ arity_of A f) where
    pub as_many : (N : ℕ) (t : Tree) → Sound A → MadeBy A N (some t) i → w ≡ length (rule_at A i).children
    as_many N t sound M = ew ∙ ap (arity_of A) ef ∙ sym (sound.wellformed.as_many (rule_at A i) (in_get_d no_rule A.rules i M.known))

    more : (c d : ℕ) (cells' slots' memo' : List ℕ) (n' : ℕ) → k < w → c ≡ place (rule_at A i) k → d ≡ depth - 1 → (depth ≡ 0 → ⊥) → Builds A marks limit d c cells slots memo n cells' slots' memo' n' → (N : ℕ) (base : List ℕ) (t : Tree) → Job A marks limit depth q cells₀ slots₀ memo₀ n₀ N base t → (M : MadeBy A N (some t) i) → Mid A N base (rule_at A i) M.under (rows_below cells₀ n₀) memo₀ (k + 1) cells' slots' memo' n'
    more c d cells' slots' memo' n' lw ec ed hd B N base t J M =
        record {
          tabled = E.tabled;
          rest = ap (λ j. (add_forest (forest (drop j M.under)) (rows_below cells' n')).0) (add-one k) ∙ ap (λ rs. (add_forest (forest (drop (suc k) M.under)) rs).0) E.rows ∙ then;
          met = λ j l. go j (ℕ_discrete j k) (omega arith);
          stays = λ p h. E.stays p (D.stays p h);
        }
      where
        D : Mid A N base (rule_at A i) M.under (rows_below cells₀ n₀) memo₀ k cells slots memo n
        D = L.gives N base t J M

        lc : k < length (rule_at A i).children
        lc = omega (arith, as_many N t J.sound M)

        lt : k < length M.under
        lt = omega (arith, lc, trees_long (rounds A N) (rule_at A i).children M.under M.marked)

        then : (add_forest (forest (drop (suc k) M.under)) (add_tree (get_or M.under k no_tree) (rows_below cells n)).0).0 ≡ (add_forest (forest M.under) (rows_below cells₀ n₀)).0
        then = sym (tree_then (get_or M.under k no_tree) (drop (suc k) M.under) (rows_below cells n)) ∙ ap (λ l. (add_forest (forest l) (rows_below cells n)).0) (sym (drop-cons M.under k no_tree lt)) ∙ D.rest

        is : t ≡ node (rule_at A i).symbol 0 0 (forest M.under)
        is = some-injective _ _ M.is

        E : Done A c cells memo n N base (get_or M.under k no_tree) cells' slots' memo' n'
        E =
            B.gives N base (get_or M.under k no_tree)
            (record {
              sound = J.sound;
              marks_are = J.marks_are;
              tree_of = ap (λ z. get_or (rounds A N) z none) ec ∙ trees_at (rounds A N) (rule_at A i).children M.under M.marked k lc;
              deep = let a = ap levels is ∙ node_levels (rule_at A i).symbol 0 0 (forest M.under) in let b = kid_levels no_tree M.under k lt in omega (arith, J.deep);
              few = J.few;
              space = J.space;
              room =
                  let a = forest_longer (forest (drop (suc k) M.under)) (add_tree (get_or M.under k no_tree) (rows_below cells n)).0 in
                  let b = ap length then in
                  let e = forest_first (rule_at A i).symbol 0 0 (forest M.under) (rows_below cells₀ n₀) in
                  let g = ap (λ u. length (add_tree u (rows_below cells₀ n₀)).0) is in
                  omega (arith, J.room);
              tabled = D.tabled;
            })

        go : (j : ℕ) → Dec (j ≡ k) → j < suc k → get_or memo' (place (rule_at A i) j) unused ≡ unused → ⊥
        go j (yes e) l z = E.known (ap (λ x. get_or memo' x unused) (ec ∙ ap (place (rule_at A i)) (sym e)) ∙ z)
        go j (no e) l z = E.stays (place (rule_at A i) j) (D.met j (omega arith)) z

    pub loops_more : (c d : ℕ) (cells' slots' memo' : List ℕ) (n' : ℕ) → k < w → c ≡ place (rule_at A i) k → d ≡ depth - 1 → (depth ≡ 0 → ⊥) → Builds A marks limit d c cells slots memo n cells' slots' memo' n' → Loops A marks limit depth q i cells₀ slots₀ memo₀ n₀ (k + 1) cells' slots' memo' n'
    loops_more c d cells' slots' memo' n' lw ec ed hd B = record { gives = more c d cells' slots' memo' n' lw ec ed hd B }
