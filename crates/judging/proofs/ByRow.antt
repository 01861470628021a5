-- The loop over a row's rules: each rule of the row's symbol adds what the model says, and no other rule would add anything. Assumes nothing.
use mathlib.Core.Path.{◌≡◌, refl, sym, ap, ◌∙◌, subst}
use mathlib.Core.Logic.{inl, inr}
use mathlib.Core.List.{List, [], ◌∷◌}
use Prim.Native.Nat.{ℕ, zero, suc, ◌+◌, ◌-◌, ◌<◌, ◌≤◌}
use native.Mathlib.Omega.{arith}
use native.Mathlib.Nat.{le_trans}
use native.Mathlib.Decide.{dec_lt}
use native.Mathlib.Numerals.{add-one}
use borrow.Author.Tests.{eq-eqb, ne_eqb}
use lib.ListN.{length, get_or, length-map}
use Rattle.std.specs.Prelude.{Option}
use Rattle.model.specs.Limits.{max_children, unused}
use Rattle.model.specs.Lists.{concat_map, only}
use Rattle.model.specs.Order.{place}
use Rattle.model.specs.Automaton.{Automaton, arity_of}
use Rattle.model.specs.Table.{Row, row_at, SoundTable}
use Rattle.model.specs.Written.{no_rule, rule_at}
use Rattle.model.specs.Sound.{Sound}
use Rattle.model.specs.Annotation.{Memory, Annotation, empty_memory, own_memory}
use Rattle.model.proofs.Tab.{tab_at}
use Rattle.model.proofs.Rows.{in_get_d}
use Rattle.automaton.specs.Window.{FirstFrom}
use Rattle.membership.specs.Cells.{annotations_in}
use Rattle.judging.specs.Cells.{no_memory}
use Rattle.judging.specs.Index.{Indexed}
use Rattle.membership.specs.Entries.{Entry, annotations_of, entries_in, add_entries}
use Rattle.judging.specs.Entries.{Grown}
use Rattle.judging.specs.Chains.{class_in, AsideOrSame}
use Rattle.membership.specs.Search.{span, no_annotation}
use Rattle.judging.specs.Search.{tags_in, arity_in, base_in, room_in, low_in, high_in, state_asked, found, class_of, Ready, Windows, Separate, Alike}
use Rattle.membership.specs.Listing.{last_step, made, no_children, rule_entries, by_rule, entries_below}
use Rattle.membership.specs.Plan.{Starts}
use Rattle.judging.specs.Plan.{asked_by, Before}
use Rattle.judging.proofs.Spans.{span_window}
use Rattle.membership.proofs.Adding.{Ext, ext_length, length_entries, annotation_at_lem, same_annotations}
use Rattle.membership.proofs.Storing.{entries_annotations}
use Rattle.judging.proofs.Children.{found_alike}
use Rattle.judging.proofs.States.{class_state, opened_same, chained_same}
use Rattle.judging.proofs.Turning.{Turning, turn_start, turn_front}
use Rattle.membership.proofs.Found.{Window}
use Rattle.judging.proofs.Found.{Asked, found_made}
use Rattle.membership.proofs.Starts.{ext_below, window_of}
use Rattle.membership.specs.declared.table.Plan.{Plan}
use Rattle.judging.specs.declared.search.Want.{Want}
use Rattle.automaton.specs.declared.State.{State}
use Rattle.membership.proofs.ByRow.{few_children}

module _ (A : Automaton) (rows : List Row) (sound : Sound A) (table : SoundTable A rows) (i room tags : ℕ) (work₀ slots₀ : List ℕ) (n : ℕ) (b : Before A rows i room tags work₀ slots₀ n) where
  abbrev pub known : List Annotation
  known = annotations_of (entries_below A rows i)

  abbrev pub step : ℕ → List Entry
  step = by_rule A rows known i

  abbrev pub list : List Entry
  list = entries_below A rows (suc i)

  abbrev cs : List ℕ
  cs = (row_at rows i).children

  known_is : annotations_in tags work₀ n ≡ known
  known_is = sym (entries_annotations tags work₀ n) ∙ ap annotations_of b.entries

  count_is : length (entries_below A rows i) ≡ n
  count_is = ap length (sym b.entries) ∙ length_entries tags work₀ n

  known_length : length known ≡ n
  known_length = length-map (entries_below A rows i) (λ (e : Entry). e.annotation) ∙ count_is

  -- only the rules of the row's symbol count
  module _ (low high : ℕ) (x : ℕ) (ex : x ≡ (row_at rows i).symbol) (first : FirstFrom A x low) (last : FirstFrom A (x + 1) high) where
    other : (j : ℕ) → ((rule_at A j).symbol ≡ (row_at rows i).symbol → ⊥) → step j ≡ []
    other j h = ap (λ b. only b (rule_entries A rows known i j)) (ne_eqb (rule_at A j).symbol (row_at rows i).symbol h)

    ordered : low ≤ high
    ordered = go (dec_lt high low)
      where
        go : Dec (high < low) → low ≤ high
        go (yes l) = let a = first.before high l in let c = first.within in let d = last.after high (omega arith) (omega arith) in let z : ⊥ = omega arith in absurd z
        go (no l) = omega (arith, l)

    all_rules : add_entries (entries_in tags work₀ n) (concat_map step (span low (high - low))) ≡ list
    unfolding entries_below
    all_rules =
        ap (λ l. add_entries l (concat_map step (span low (high - low)))) b.entries
        ∙ ap (add_entries (entries_below A rows i))
        (sym (span_window step low high (length A.rules) ordered last.within
        (λ j l. other j (λ e. let a = first.before j l in omega arith))
        (λ j l m. other j (λ e. let a = last.after j l m in omega arith))))

    pub rules_start : Turning step high n room tags (length work₀) list work₀ slots₀ n low
    rules_start = turn_start step high n room tags (length work₀) list work₀ slots₀ low b.count refl all_rules b.indexed

    pub in_symbol : (r : ℕ) → low ≤ r → r < high → (rule_at A r).symbol ≡ (row_at rows i).symbol
    in_symbol r l m = let a = last.before r m in let c = last.within in let d = first.after r l (omega arith) in omega arith

    pub in_rules : (r : ℕ) → r < high → r < length A.rules
    in_rules r m = le_trans m last.within

  -- the plan of the row, with the windows of its children
  module _ (starts : List ℕ) (st : Starts A rows starts i) (plan : Plan) (width : ℕ) (ew : width ≡ arity_of A (row_at rows i).symbol)
      (tags_are : tags_in plan ≡ tags) (arity_is : arity_in plan ≡ width) (base_is : base_in plan ≡ n) (room_is : room_in plan ≡ room)
      (el : (p : ℕ) → p < width → low_in plan p ≡ get_or starts (get_or cs p 0) 0)
      (eh : (p : ℕ) → p < width → high_in plan p ≡ get_or starts (get_or cs p 0 + 1) 0) where
    width_is : length cs ≡ width
    width_is = (table.each i b.row).as_many ∙ sym ew

    few_places : width ≤ max_children
    few_places = let h = few_children A rows sound table i b.row in let e = width_is in omega arith

    child_window : (p : ℕ) → p < width → Window known (get_or cs p 0) (low_in plan p) (high_in plan p)
    child_window p l =
        let c : ℕ = get_or cs p 0 in
        let e = width_is in
        let lower : c < i = table.lower i b.row c (in_get_d 0 cs p (omega arith)) in
        let a : low_in plan p ≡ length (entries_below A rows c) = el p l ∙ st c (omega arith) in
        let d : high_in plan p ≡ length (entries_below A rows (suc c)) = eh p l ∙ st (c + 1) (omega arith) ∙ ap (λ k. length (entries_below A rows k)) (add-one c) in
        let row = b.row in
        rw (a, d) (window_of A rows (few_children A rows sound table) i (omega arith) c lower)

    -- the windows of two children are those of two rows, or of one
    below_length : (c d : ℕ) → c ≤ d → length (entries_below A rows c) ≤ length (entries_below A rows d)
    below_length c d l = let e : c + (d - c) ≡ d = omega arith in subst (λ k. length (entries_below A rows c) ≤ length (entries_below A rows k)) e (ext_length (entries_below A rows c) (entries_below A rows (c + (d - c))) (ext_below A rows c (d - c)))

    child_lower : (p : ℕ) → p < width → get_or cs p 0 < i
    child_lower p l = let e = width_is in table.lower i b.row (get_or cs p 0) (in_get_d 0 cs p (omega arith))

    low_is : (p : ℕ) → p < width → low_in plan p ≡ length (entries_below A rows (get_or cs p 0))
    low_is p l = let h = child_lower p l in el p l ∙ st (get_or cs p 0) (omega arith)

    high_is : (p : ℕ) → p < width → high_in plan p ≡ length (entries_below A rows (get_or cs p 0 + 1))
    high_is p l = let h = child_lower p l in eh p l ∙ st (get_or cs p 0 + 1) (omega arith)

    -- the window of a lower row ends before that of a higher one starts
    before : (p q : ℕ) → p < width → q < width → get_or cs p 0 < get_or cs q 0 → high_in plan p ≤ low_in plan q
    before p q lp lq l = let h = high_is p lp in let g = low_is q lq in let k = below_length (get_or cs p 0 + 1) (get_or cs q 0) (omega arith) in omega arith

    apart : (p q : ℕ) → p < width → q < width → AsideOrSame (low_in plan p) (high_in plan p) (low_in plan q) (high_in plan q)
    apart p q lp lq = go (dec_lt (get_or cs q 0) (get_or cs p 0)) (dec_lt (get_or cs p 0) (get_or cs q 0))
      where
        go : Dec (get_or cs q 0 < get_or cs p 0) → Dec (get_or cs p 0 < get_or cs q 0) → AsideOrSame (low_in plan p) (high_in plan p) (low_in plan q) (high_in plan q)
        go (yes l) m = inl (before q p lq lp l)
        go (no l) (yes m) = inr (inl (before p q lp lq m))
        go (no l) (no m) =
            let e : get_or cs p 0 ≡ get_or cs q 0 = omega (arith, l, m) in
            inr (inr (low_is p lp ∙ ap (λ c. length (entries_below A rows c)) e ∙ sym (low_is q lq), high_is p lp ∙ ap (λ c. length (entries_below A rows (c + 1))) e ∙ sym (high_is q lq)))

    pub row_separate : Separate plan work₀
    row_separate =
        record {
          few_children = let f = few_places in omega arith;
          order = λ p l. (child_window p (omega arith)).order;
          few = λ p l. let w = (child_window p (omega arith)).top in let e = known_length in let c = b.count in let f = b.few in omega arith;
          inside = λ p l. let w = (child_window p (omega arith)).top in let e = known_length in let c = b.count in let s = b.space in omega arith;
          aside = λ p q l m. apart p q (omega arith) (omega arith);
        }

    module _ (high : ℕ) (work slots : List ℕ) (m r : ℕ) (t : Turning step high n room tags (length work₀) list work slots m r) where
      pub rule_ready : Ready plan work slots m
      rule_ready =
          record {
            few_tags = let g = b.tags_are in let h = sound.few_tags in omega arith;
            few_children = let f = few_places in omega arith;
            known = let h = t.more in omega arith;
            count = let h = t.count in omega arith;
            few = let h = b.few in omega arith;
            space = let h = b.space in let g = t.space in omega arith;
            order = λ p l. (child_window p (omega arith)).order;
            windows = λ p l. let w = (child_window p (omega arith)).top in let e = known_length in omega arith;
            indexed = subst (λ z. Indexed z (room_in plan) work slots m) (sym tags_are) (subst (λ z. Indexed tags z work slots m) (sym room_is) t.indexed);
          }

      known_still : annotations_in tags work n ≡ known
      known_still =
          let h = t.more in
          same_annotations tags work₀ work n m list (subst (λ l. Ext l list) (sym b.entries) (subst (λ z. Ext (entries_below A rows i) (entries_below A rows z)) (add-one i) (ext_below A rows i 1))) (turn_front step high n room tags (length work₀) list work slots m r t) n (omega arith) h
          ∙ known_is

      -- the windows that were opened before the first rule, seen from what is in the work space now
      pub rule_windows : (heads links : List ℕ) → Windows (class_in work₀) plan (arity_in plan) heads links → Windows (class_of (annotations_in (tags_in plan) work (base_in plan))) plan (arity_in plan) heads links
      rule_windows heads links w =
          record {
            opened = λ p l. opened_same (class_in work₀) (class_of now) (high_in plan p) (same p l) p (low_in plan p) heads (w.opened p l);
            chained = λ p l. chained_same (class_in work₀) (class_of now) (high_in plan p) (same p l) (low_in plan p) links (w.chained p l);
          }
        where
          now : List Annotation
          now = annotations_in (tags_in plan) work (base_in plan)

          now_is : annotations_in tags work₀ n ≡ now
          now_is = known_is ∙ sym known_still ∙ sym (ap (λ k. annotations_in tags work k) base_is) ∙ sym (ap (λ k. annotations_in k work (base_in plan)) tags_are)

          same : (p : ℕ) → p < arity_in plan → (k : ℕ) → k < high_in plan p → class_in work₀ k ≡ class_of now k
          same p l k h =
              let w = (child_window p (omega arith)).top in
              let e = known_length in
              class_state work₀ k (get_or now k no_annotation).state (ap (λ (a : Annotation). a.state) (sym (annotation_at_lem tags work₀ n k (omega arith)) ∙ ap (λ (a : List Annotation). get_or a k no_annotation) now_is))

      -- what a rule of the row's symbol asks
      module _ (lr : r < length A.rules) (same_symbol : (rule_at A r).symbol ≡ (row_at rows i).symbol) (asked : Want) (ea : asked ≡ asked_by A i r) (own : Memory) (eo : own ≡ own_memory A (rule_at A r).target i) where
        states_are : length (rule_at A r).children ≡ width
        states_are = sound.wellformed.as_many (rule_at A r) (in_get_d no_rule A.rules r lr) ∙ ap (arity_of A) same_symbol ∙ sym ew

        state_at_lem : (p : ℕ) → p < width → state_asked asked p ≡ get_or (rule_at A r).children p 0
        state_at_lem p l =
            let f = few_places in
            let e = states_are in
            ap (λ (z : Want). state_asked z p) ea ∙ ap (λ (q : State). q.0) (tab_at (record { 0 = 0 }) max_children (λ k. record { 0 = place (rule_at A r) k }) p (omega arith)) ∙ default (rule_at A r).children p (omega arith)
          where
            default : (l : List ℕ) (p : ℕ) → p < length l → get_or l p unused ≡ get_or l p 0
            default [] p h = let z : ⊥ = omega arith in absurd z
            default (x ∷ l) zero h = refl
            default (x ∷ l) (suc p) h = default l p (omega arith)

        asks : Asked A known plan asked own i r cs (rule_at A r).children
        asks =
            record {
              row = ap (λ (z : Want). z.row.0) ea;
              target = ap (λ (z : Want). z.target.0) ea;
              rule = ap (λ (z : Want). z.rule) ea;
              forget = ap (λ (z : Want). z.forget) ea;
              tags = tags_are ∙ b.tags_are;
              own_is = eo;
              rows_are = width_is ∙ sym arity_is;
              states_are = states_are ∙ sym arity_is;
              states = λ p l. state_at_lem p (omega arith);
              windows = λ p l. child_window p (omega arith);
            }

        -- what the search finds is what the rule makes
        rule_found : (empty : Memory) → empty ≡ empty_memory A → (free : List ℕ) → Alike 0 width no_children free → found known plan asked own width empty free ≡ step r
        rule_found empty ee free ef =
            let few = few_places in
            let a = subst (λ z. Alike z (arity_in plan) no_children free) (let e : 0 ≡ arity_in plan - width = omega arith in e) (subst (λ z. Alike 0 z no_children free) (sym arity_is) ef) in
            found_alike known plan asked own width empty no_children free (omega arith) a
            ∙ found_made A known plan asked own i r cs (rule_at A r).children asks width 0 (omega arith) empty no_children
            ∙ ap (λ m. made known (last_step A i r) 0 m no_children cs (rule_at A r).children) ee
            ∙ sym (ap (λ b. only b (rule_entries A rows known i r)) (eq-eqb (rule_at A r).symbol (row_at rows i).symbol same_symbol))

        pub rule_grown : (own' : Memory) (free work' slots' : List ℕ) (m' : Option ℕ) → own' ≡ own → Alike 0 width no_children free → Grown m (room_in plan) (tags_in plan) (add_entries (entries_in (tags_in plan) work m) (found (annotations_in (tags_in plan) work (base_in plan)) plan asked own' (arity_in plan) (no_memory (tags_in plan)) free)) work' slots' m' → Grown m room tags (add_entries (entries_in tags work m) (step r)) work' slots' m'
        rule_grown own' free work' slots' m' eown ef g =
            let g₁ = subst (λ z. Grown m z (tags_in plan) (add_entries (entries_in (tags_in plan) work m) (found (annotations_in (tags_in plan) work (base_in plan)) plan asked own' (arity_in plan) (no_memory (tags_in plan)) free)) work' slots' m') room_is g in
            let g₂ = subst (λ z. Grown m room z (add_entries (entries_in z work m) (found (annotations_in z work (base_in plan)) plan asked own' (arity_in plan) (no_memory z) free)) work' slots' m') tags_are g₁ in
            let e =
            ap (λ z. found (annotations_in tags work z) plan asked own' (arity_in plan) (no_memory tags) free) base_is
            ∙ ap (λ z. found z plan asked own' (arity_in plan) (no_memory tags) free) known_still
            ∙ ap (λ z. found known plan asked z (arity_in plan) (no_memory tags) free) eown
            ∙ ap (λ z. found known plan asked own z (no_memory tags) free) arity_is
            ∙ rule_found (no_memory tags) (ap no_memory b.tags_are) free ef in
            subst (λ z. Grown m room tags (add_entries (entries_in tags work m) z) work' slots' m') e g₂
