-- A state's own row, after its children's: found or added, it finishes the state's tree. Assumes nothing.
use mathlib.Core.Path.{◌≡◌, refl, sym, ap, ◌∙◌, subst}
use mathlib.Core.List.{List, [], ◌∷◌, ◌++◌, map, append_assoc, append-nil, Memᴰ as In}
use mathlib.Core.Bool.{Bool, true, false, cond}
use mathlib.Core.Option.{some, some-injective}
use Prim.Native.Nat.{ℕ, suc, ◌+◌, ◌*◌, ◌<◌, ◌≤◌}
use native.Mathlib.Decide.{dec_lt}
use native.Mathlib.Omega.{arith}
use borrow.Author.Tests.{lt-ltb, le-leb}
use lib.ListN.{length, get_or, set, take, drop, length-map, drop_of_length-le, get_or-eq_default}
use lib.Seq.{drop-drop, drop-append-add, take_at}
use Rattle.model.specs.Limits.{max_children, max_rows, unused}
use Rattle.model.specs.Space.{put_at}
use Rattle.model.specs.Tree.{Tree, forest}
use Rattle.model.specs.Automaton.{Automaton}
use Rattle.model.specs.Order.{place}
use Rattle.model.specs.Written.{rule_at}
use Rattle.model.specs.Table.{Row, tree_at, Lower, Distinct}
use Rattle.model.specs.Build.{eq_row, add_row, add_tree, add_forest}
use Rattle.model.specs.Witness.{rounds}
use Rattle.model.proofs.Space.{put_fits}
use Rattle.model.proofs.Tab.{tab_same}
use Rattle.model.proofs.Rows.{trees_forest, map_inj, one_tree}
use Rattle.model.proofs.Build.{ForestIn, forest_in}
use Rattle.document.specs.declared.index.Probed.{Probed}
use Rattle.document.specs.declared.index.Probed.TheVariants.{Found, Free, Crowded}
use Rattle.document.specs.declared.builder.Placed.TheVariants.{Added, Full}
use Rattle.document.specs.Rows.{row_cells, used, row_in, rows_below, encode_row, encode_rows, Kept}
use Rattle.document.specs.Index.{start_slot, probe}
use Rattle.document.specs.Fields.{as_row}
use Rattle.document.specs.Builder.{room_for?, Placing, place_at, find_or_add}
use Rattle.document.proofs.Encoding.{all_used, used_places, length_encode}
use Rattle.document.proofs.Putting.{rows_put}
use Rattle.emptiness.specs.Marking.{MadeBy}
use Rattle.emptiness.specs.Building.{memo_place, rule_row, RowOf, Tabled}
use Rattle.emptiness.proofs.Adding.{none_then, root_then}
use Rattle.emptiness.proofs.Tabling.{Any, trees_long, map_at, map_trees, map_in, rows_long, distinct_rows, Mid}

-- what an added row does to the cells
by_adding : (cells slots : List ℕ) (n limit : ℕ) (r : Row) (b : Bool) (t : ℕ) (i : ℕ) → (cond {A = Placing} b (record { answer = Added (as_row n); cells = put_at cells (n * row_cells) (encode_row r); slots = set slots t (n + 1) }) (record { answer = Full; cells = cells; slots = slots })).answer ≡ Added (as_row i) → (cond {A = Placing} b (record { answer = Added (as_row n); cells = put_at cells (n * row_cells) (encode_row r); slots = set slots t (n + 1) }) (record { answer = Full; cells = cells; slots = slots })).cells ≡ put_at cells (n * row_cells) (encode_row r)
by_adding cells slots n limit r true t i e = refl
by_adding cells slots n limit r false t i e = let z : ◌≡◌ {A = ℕ} 0 1 = cc in let y : ⊥ = omega arith in absurd y

added_by : (cells slots : List ℕ) (n limit : ℕ) (r : Row) (q : Probed) (i : ℕ) → (place_at cells slots n limit r q).answer ≡ Added (as_row i) → (place_at cells slots n limit r q).cells ≡ put_at cells (n * row_cells) (encode_row r)
added_by cells slots n limit r (Found j) i e = let z : ◌≡◌ {A = ℕ} 0 1 = cc in let y : ⊥ = omega arith in absurd y
added_by cells slots n limit r (Free t) i e = by_adding cells slots n limit r (room_for? cells n limit) t i e
added_by cells slots n limit r Crowded i e = let z : ◌≡◌ {A = ℕ} 0 1 = cc in let y : ⊥ = omega arith in absurd y

pub added_cells : (cells slots : List ℕ) (n limit : ℕ) (r : Row) (i : ℕ) → (find_or_add cells slots n limit r).answer ≡ Added (as_row i) → (find_or_add cells slots n limit r).cells ≡ put_at cells (n * row_cells) (encode_row r)
unfolding find_or_add
added_cells cells slots n limit r i e = added_by cells slots n limit r (probe slots (λ j. eq_row r (row_in cells j)) (start_slot r)) i e

encode_more : (rows : List Row) (r : Row) → encode_rows (rows ++ r ∷ []) ≡ encode_rows rows ++ encode_row r
encode_more [] r = append-nil (encode_row r)
encode_more (x ∷ rows) r = ap (λ l. encode_row x ++ l) (encode_more rows r) ∙ sym (append_assoc (encode_row x) (encode_rows rows) (encode_row r))

pub has_room : (cells : List ℕ) (n limit : ℕ) → n < limit → n < max_rows → n * row_cells + row_cells ≤ length cells → room_for? cells n limit ≡ true
unfolding room_for?
has_room cells n limit a b c = rw (lt-ltb n limit a, lt-ltb n max_rows b, le-leb (n * row_cells + row_cells) (length cells) c)

module _ {A : Automaton} {N : ℕ} {base cells slots memo : List ℕ} {n : ℕ} (T : Tabled A N base cells slots memo n) where
  -- a row more behind the others
  pub front_more : (r : Row) → n * row_cells + row_cells ≤ length cells → Kept r → put_at cells (n * row_cells) (encode_row r) ≡ encode_rows (rows_below (put_at cells (n * row_cells) (encode_row r)) (suc n)) ++ drop (suc n * row_cells) base
  front_more r h k =
      put_fits cells (n * row_cells) (encode_row r) h
      ∙ ap (λ l. take (n * row_cells) l ++ encode_row r ++ drop (n * row_cells + row_cells) l) T.front
      ∙ ap (λ l. l ++ encode_row r ++ drop (n * row_cells + row_cells) (encode_rows (rows_below cells n) ++ drop (n * row_cells) base)) (take_at (encode_rows (rows_below cells n)) (drop (n * row_cells) base) (n * row_cells) long)
      ∙ ap (λ l. encode_rows (rows_below cells n) ++ encode_row r ++ l) tail
      ∙ ap (λ l. l ++ drop (suc n * row_cells) base) (sym (encode_more (rows_below cells n) r) ∙ ap encode_rows (sym (rows_put cells n r h k)))
    where
      long : length (encode_rows (rows_below cells n)) ≡ n * row_cells
      long = length_encode (rows_below cells n) ∙ ap (λ m. m * row_cells) (rows_long T)

      tail : drop (n * row_cells + row_cells) (encode_rows (rows_below cells n) ++ drop (n * row_cells) base) ≡ drop (suc n * row_cells) base
      tail =
          ap (λ m. drop (m + row_cells) (encode_rows (rows_below cells n) ++ drop (n * row_cells) base)) (sym long)
          ∙ drop-append-add (encode_rows (rows_below cells n)) (drop (n * row_cells) base) row_cells
          ∙ drop-drop row_cells (n * row_cells) base
          ∙ ap (λ m. drop m base) (let e : n * row_cells + row_cells ≡ suc n * row_cells = omega arith in e)

-- the row of a rule over the rows of its child states
module _ (A : Automaton) (N : ℕ) (base : List ℕ) (i : ℕ) (t : Tree) (M : MadeBy A N (some t) i) (rows₀ : List Row) (memo₀ : List ℕ) (k : ℕ) (cells slots memo : List ℕ) (n : ℕ) (D : Mid A N base (rule_at A i) M.under rows₀ memo₀ k cells slots memo n) (all : length (rule_at A i).children ≤ k) (lower₀ : Lower rows₀) (distinct₀ : Distinct rows₀) (few : length (rule_at A i).children ≤ max_children) (short : n ≤ max_rows) where
  child_row : (j : ℕ) → j < length (rule_at A i).children → RowOf A N (rows_below cells n) (place (rule_at A i) j) (get_or memo (place (rule_at A i) j) unused)
  child_row j l = D.tabled.rows (place (rule_at A i) j) (D.met j (omega arith))

  abbrev kids : List ℕ
  kids = map (λ c. get_or memo c unused) (rule_at A i).children

  all_in : rows_below cells n ≡ (add_forest (forest M.under) rows₀).0
  all_in =
      let e : drop k M.under ≡ [] = drop_of_length-le M.under {i = k} (omega (arith, trees_long (rounds A N) (rule_at A i).children M.under M.marked)) in
      sym (ap (λ l. (add_forest (forest l) (rows_below cells n)).0) e ∙ none_then (rows_below cells n)) ∙ D.rest

  F : ForestIn Any rows₀ (forest M.under) (add_forest (forest M.under) rows₀)
  F = forest_in Any (forest M.under) (λ j p u e. tt) rows₀ lower₀ distinct₀

  inside : (j : ℕ) → In j kids → j < length (rows_below cells n)
  inside = map_in (λ c. get_or memo c unused) (rule_at A i).children (λ j. j < length (rows_below cells n)) (λ j l. (child_row j l).inside)

  kids_are : kids ≡ (add_forest (forest M.under) rows₀).1
  kids_are =
      map_inj (tree_at (rows_below cells n)) kids (add_forest (forest M.under) rows₀).1
      (λ a b ia ib e. one_tree (rows_below cells n) D.tabled.lower (distinct_rows D.tabled) (suc a) a b (omega arith) (inside a ia) (subst (λ rs. b < length rs) (sym all_in) (F.at_rows b ib)) e)
      (map_trees (rounds A N) (λ c. get_or memo c unused) (tree_at (rows_below cells n)) (rule_at A i).children M.under M.marked (λ j l. (child_row j l).tree)
      ∙ sym (trees_forest M.under)
      ∙ sym F.forest_is
      ∙ ap (λ rs. map (tree_at rs) (add_forest (forest M.under) rows₀).1) (sym all_in))

  place_is : (j : ℕ) → memo_place memo (rule_at A i) j ≡ get_or kids j unused
  unfolding memo_place
  place_is j = go (dec_lt j (length (rule_at A i).children))
    where
      go : Dec (j < length (rule_at A i).children) → get_or memo (place (rule_at A i) j) unused ≡ get_or kids j unused
      go (yes l) = sym (map_at (λ c. get_or memo c unused) (rule_at A i).children j unused l)
      go (no l) =
          ap (λ c. get_or memo c unused) (get_or-eq_default (rule_at A i).children unused (omega arith))
          ∙ get_or-eq_default memo unused (omega (arith, D.tabled.long))
          ∙ sym (get_or-eq_default kids unused (omega (arith, length-map (rule_at A i).children (λ c. get_or memo c unused))))

  row_is : rule_row memo (rule_at A i) ≡ record { symbol = (rule_at A i).symbol; kind = 0; payload = 0; children = (add_forest (forest M.under) rows₀).1 }
  row_is =
      ap (λ l. record { symbol = (rule_at A i).symbol; kind = 0; payload = 0; children = l })
      (ap used (tab_same max_children (memo_place memo (rule_at A i)) (λ j. get_or kids j unused) (λ j l. place_is j))
      ∙ used_places max_children kids (omega (arith, length-map (rule_at A i).children (λ c. get_or memo c unused))) (all_used kids (λ j m. let l = inside j m in omega (arith, rows_long D.tabled)))
      ∙ kids_are)

  pub root_added : add_tree t rows₀ ≡ add_row (rows_below cells n) (rule_row memo (rule_at A i))
  root_added =
      ap (λ u. add_tree u rows₀) (some-injective _ _ M.is)
      ∙ root_then (rule_at A i).symbol 0 0 (forest M.under) rows₀
      ∙ ap (λ rs. add_row rs (record { symbol = (rule_at A i).symbol; kind = 0; payload = 0; children = (add_forest (forest M.under) rows₀).1 })) (sym all_in)
      ∙ ap (add_row (rows_below cells n)) (sym row_is)
