-- Whichever way a state's own row is found, its tree is in the table then; and there is always room for it. Assumes nothing.
use mathlib.Core.Path.{◌≡◌, refl, sym, ap, ◌∙◌, subst}
use mathlib.Core.List.{List, [], ◌∷◌, ◌++◌}
use mathlib.Core.Bool.{true}
use mathlib.Core.Option.{none, some}
use Prim.Native.Nat.{ℕ, zero, suc, ◌+◌, ◌*◌, ◌-◌, ◌<◌, ◌≤◌}
use native.Mathlib.Numerals.{add-one}
use native.Mathlib.Decide.{ℕ_discrete}
use native.Mathlib.Omega.{arith}
use borrow.Author.Rules.{rules}
use lib.Dec.{T}
use Rattle.std.specs.Prelude.{None, Some}
use Rattle.std.specs.Prelude.{Option as Perhaps}
use Rattle.std.specs.Option.{SomeIff}
use lib.ListN.{length, get_or, set, drop, length-append, length-set}
use lib.Seq.{get_or-set_same, get_or-set_other}
use Rattle.model.specs.Limits.{unused}
use Rattle.model.specs.Space.{put_at}
use Rattle.model.specs.Tree.{Tree}
use Rattle.model.specs.Automaton.{Automaton, arity_of}
use Rattle.model.specs.Written.{rule_at, no_rule}
use Rattle.model.specs.Table.{Row, tree_at}
use Rattle.model.specs.Build.{placed, add_row, add_tree}
use Rattle.model.specs.Witness.{rounds}
use Rattle.model.proofs.Tab.{length_tab}
use Rattle.model.proofs.Rows.{in_get_d}
use Rattle.model.proofs.Build.{tree_kept, TreeIn, tree_in_lem}
use Rattle.model.proofs.Rounds.{in_states}
use Rattle.document.specs.declared.builder.Placed.{Placed}
use Rattle.document.specs.declared.builder.Placed.TheVariants.{Known, Added, Full}
use Rattle.document.specs.Rows.{row_cells, row_in, rows_below, encode_row, encode_rows}
use Rattle.document.specs.Builder.{Built, find_or_add, Grows}
use Rattle.document.proofs.Putting.{rows_put}
use Rattle.document.proofs.Placement.{room}
use Rattle.document.proofs.Building.{grows}
use Rattle.emptiness.specs.Marking.{MadeBy, Made}
use Rattle.emptiness.specs.Building.{rule_row, remembered, counted, RowPut, RowOf, Job, Done, Builds}
use Rattle.emptiness.proofs.Tabling.{known_already, no_mark, no_depth, loops_start, loops_more, Any, rows_long, distinct_rows, cells_long, Mid, Loops, as_many}
use Rattle.emptiness.proofs.Puts.{noted_in}
use Rattle.emptiness.proofs.Rooting.{added_cells, has_room, front_more, root_added}

before : (x i : ℕ) → (x ≡ 0 → ⊥) → i ≡ x - 1 → x ≡ suc i
before zero i h e = absurd (h refl)
before (suc y) i h e = omega arith

module _ (A : Automaton) (marks : List ℕ) (limit depth q i : ℕ) (cells₀ slots₀ memo₀ : List ℕ) (n₀ : ℕ) (k w f : ℕ) (cells slots memo : List ℕ) (n : ℕ) (L : Loops A marks limit depth q i cells₀ slots₀ memo₀ n₀ k cells slots memo n) (ef : f ≡ (rule_at A i).symbol) (ew : w ≡ arity_of A f) (lw : w ≤ k) where
  module _ (N : ℕ) (base : List ℕ) (t : Tree) (J : Job A marks limit depth q cells₀ slots₀ memo₀ n₀ N base t) (M : MadeBy A N (some t) i) where
    abbrev rows₀ : List Row
    rows₀ = rows_below cells₀ n₀

    abbrev own : Row
    own = rule_row memo (rule_at A i)

    D : Mid A N base (rule_at A i) M.under rows₀ memo₀ k cells slots memo n
    D = L.gives N base t J M

    wide : w ≡ length (rule_at A i).children
    wide = as_many A marks limit depth q i cells₀ slots₀ memo₀ n₀ k w f cells slots memo n L ef ew N t J.sound M

    few_kids : length (rule_at A i).children ≤ 4
    few_kids =
        let a = J.sound.wellformed.as_many (rule_at A i) (in_get_d no_rule A.rules i M.known) in
        omega (arith, J.sound.few_children (rule_at A i).symbol)

    adds : add_tree t rows₀ ≡ add_row (rows_below cells n) own
    adds = root_added A N base i t M rows₀ memo₀ k cells slots memo n D (omega (arith, wide)) J.tabled.lower (distinct_rows J.tabled) few_kids D.tabled.built.few

    W : TreeIn Any rows₀ t (add_tree t rows₀)
    W = tree_in_lem Any t (λ p u e. tt) rows₀ J.tabled.lower (distinct_rows J.tabled)

    -- the table after the row, which is row y
    module _ (cells'' slots'' : List ℕ) (n'' y : ℕ) (e : add_tree t rows₀ ≡ (rows_below cells'' n'', y)) (b : Built cells'' slots'' n'') (front : cells'' ≡ encode_rows (rows_below cells'' n'') ++ drop (n'' * row_cells) base) (old : (j : ℕ) → j < length (rows_below cells n) → (j < length (rows_below cells'' n'')) × (tree_at (rows_below cells'' n'') j ≡ tree_at (rows_below cells n) j)) where
      After : TreeIn Any rows₀ t (rows_below cells'' n'', y)
      After = subst (TreeIn Any rows₀ t) e W

      at_q : get_or (set memo q y) q unused ≡ y
      at_q = get_or-set_same memo q y unused (let l = in_states A N q t J.tree_of in omega (arith, J.sound.few_states, D.tabled.long))

      known'' : get_or (set memo q y) q unused ≡ unused → ⊥
      known'' z = let g : y ≡ unused = sym at_q ∙ z in omega (arith, After.at_row, b.few, length_tab n'' (row_in cells''))

      row : (p : ℕ) → Dec (p ≡ q) → (get_or (set memo q y) p unused ≡ unused → ⊥) → RowOf A N (rows_below cells'' n'') p (get_or (set memo q y) p unused)
      row p (yes g) h =
          subst (λ z. RowOf A N (rows_below cells'' n'') z (get_or (set memo q y) z unused)) (sym g)
          (subst (RowOf A N (rows_below cells'' n'') q) (sym at_q) (record { inside = After.at_row; tree = J.tree_of ∙ ap some (sym After.tree) }))
      row p (no g) h =
          let o = get_or-set_other memo q p y unused g in
          let R = D.tabled.rows p (λ z. h (o ∙ z)) in
          let c = old (get_or memo p unused) R.inside in
          subst (RowOf A N (rows_below cells'' n'') p) (sym o) (record { inside = c.0; tree = R.tree ∙ ap some (sym c.1) })

      stay : (p : ℕ) → Dec (p ≡ q) → (get_or memo₀ p unused ≡ unused → ⊥) → get_or (set memo q y) p unused ≡ unused → ⊥
      stay p (yes g) h z = known'' (ap (λ x. get_or (set memo q y) x unused) (sym g) ∙ z)
      stay p (no g) h z = D.stays p h (sym (get_or-set_other memo q p y unused g) ∙ z)

      done : Done A q cells₀ memo₀ n₀ N base t cells'' slots'' (set memo q y) n''
      done =
          record {
            tabled = record { long = length-set memo q y ∙ D.tabled.long; built = b; lower = After.from.lower; front = front; rows = λ p. row p (ℕ_discrete p q) };
            rows = sym (ap (λ o. o.0) e);
            known = known'';
            stays = λ p. stay p (ℕ_discrete p q);
          }

    module _ (cells' slots' memo' : List ℕ) (n' : ℕ) (P : RowPut (rule_at A i) limit q cells slots memo n cells' slots' memo' n') where
      G : Grows cells slots n limit own (find_or_add cells slots n limit own)
      G = grows cells slots n limit D.tabled.built own P.kept

      inside : q < 256
      inside = let l = in_states A N q t J.tree_of in omega (arith, J.sound.few_states)

      moved : (c s m : List ℕ) (j : ℕ) → cells' ≡ c → slots' ≡ s → memo' ≡ m → n' ≡ j → Done A q cells₀ memo₀ n₀ N base t c s m j → Done A q cells₀ memo₀ n₀ N base t cells' slots' memo' n'
      moved c s m j ec es em ej d =
          subst (λ z. Done A q cells₀ memo₀ n₀ N base t z slots' memo' n') (sym ec)
          (subst (λ z. Done A q cells₀ memo₀ n₀ N base t c z memo' n') (sym es)
          (subst (λ z. Done A q cells₀ memo₀ n₀ N base t c s z n') (sym em)
          (subst (λ z. Done A q cells₀ memo₀ n₀ N base t c s m z) (sym ej) d)))

      finish : (a : Placed) → (find_or_add cells slots n limit own).answer ≡ a → Done A q cells₀ memo₀ n₀ N base t cells' slots' memo' n'
      finish (Known j) ea =
          let (e, ec, es) = G.known j.0 ea in
          moved cells slots (set memo q j.0) n (P.cells_are ∙ ec) (P.slots_are ∙ es) (P.memo_is ∙ ap (remembered memo q) ea ∙ sym (noted_in memo q q j.0 refl inside)) (P.count ∙ ap (counted n) ea)
          (done cells slots n j.0 (adds ∙ e) D.tabled.built D.tabled.front (λ x l. (l, refl)))
      finish (Added j) ea =
          let (ej, f, e, b) = G.added j.0 ea in
          let rm = room cells n limit true (sym f) refl in
          let pc = added_cells cells slots n limit own j.0 ea in
          let c'' = (find_or_add cells slots n limit own).cells in
          let rows'' : rows_below c'' (n + 1) ≡ rows_below cells n ++ own ∷ [] =
          ap (rows_below c'') (add-one n) ∙ ap (λ z. rows_below z (suc n)) pc ∙ rows_put cells n own rm.fits P.kept in
          moved c'' (find_or_add cells slots n limit own).slots (set memo q n) (n + 1) P.cells_are P.slots_are (P.memo_is ∙ ap (remembered memo q) ea ∙ sym (noted_in memo q q j.0 refl inside) ∙ ap (set memo q) ej) (P.count ∙ ap (counted n) ea)
          (done c'' (find_or_add cells slots n limit own).slots (n + 1) n (adds ∙ e) b
          (subst (λ z. z ≡ encode_rows (rows_below z (n + 1)) ++ drop ((n + 1) * row_cells) base) (sym pc)
          (subst (λ m. put_at cells (n * row_cells) (encode_row own) ≡ encode_rows (rows_below (put_at cells (n * row_cells) (encode_row own)) m) ++ drop (m * row_cells) base) (sym (add-one n)) (front_more D.tabled own rm.fits P.kept)))
          (λ x l. (
            omega (arith, ap length rows'', length-append (rows_below cells n) (own ∷ [])),
            ap (λ rs. tree_at rs x) rows'' ∙ tree_kept (rows_below cells n) (own ∷ []) D.tabled.lower (suc x) x l,
          )))
      finish Full ea =
          let (e, f, ec, es) = G.full ea in
          let g = ap (λ o. length o.0) (adds ∙ ap (placed (rows_below cells n) own) e) in
          let l = length-append (rows_below cells n) (own ∷ []) in
          let r = rows_long D.tabled in
          let a : n < limit = omega (arith, J.room) in
          let c : length cells ≡ length base = cells_long D.tabled (omega (arith, J.space)) in
          let z : ⊥ = subst T (sym (has_room cells n limit a (omega (arith, J.few)) (omega (arith, J.space))) ∙ f) tt in
          absurd z

  -- THE STATE'S TREE IS ADDED
  pub put_done : (x : ℕ) (cells' slots' memo' : List ℕ) (n' : ℕ) → x ≡ get_or marks q 0 → (x ≡ 0 → ⊥) → i ≡ x - 1 → RowPut (rule_at A i) limit q cells slots memo n cells' slots' memo' n' → Builds A marks limit depth q cells₀ slots₀ memo₀ n₀ cells' slots' memo' n'
  put_done x cells' slots' memo' n' ex hx ei P = record {
    gives = λ N base t J.
        let M : MadeBy A N (some t) i =
        subst (λ o. MadeBy A N o i) J.tree_of (subst (Made A N (get_or (rounds A N) q none)) (sym ex ∙ before x i hx ei) (J.marks_are.each q (in_states A N q t J.tree_of))) in
        finish N base t J M cells' slots' memo' n' P (find_or_add cells slots n limit (rule_row memo (rule_at A i))).answer refl;
  }

-- what is known of a number where 1 can be taken off it, and where it can not
pub one_less : (x i : ℕ) (r : Perhaps ℕ) → SomeIff r (1 ≤ x) (x - 1) → r ≡ Some i → (x ≡ 0 → ⊥) × (i ≡ x - 1)
one_less x i r h e = let (l, v) = rw e at h in (λ z. omega arith, v)

pub none_less : (x : ℕ) (r : Perhaps ℕ) → SomeIff r (1 ≤ x) (x - 1) → r ≡ None → x ≡ 0
none_less zero r h e = refl
none_less (suc x) r h e = let n = rw e at h in absurd (n (omega arith))

pub ruleset building = (known_already, no_mark, no_depth, loops_start, loops_more, put_done, rules)
