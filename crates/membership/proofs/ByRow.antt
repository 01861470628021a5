-- The loop over a row's rules: each rule of the row's symbol adds what the model says, and no other rule would add anything. Assumes nothing.
use mathlib.Core.Path.{◌≡◌, refl, sym, ap, ◌∙◌, subst}
use mathlib.Core.List.{List, [], ◌∷◌}
use Prim.Native.Nat.{ℕ, zero, suc, ◌+◌, ◌-◌, ◌<◌, ◌≤◌}
use native.Mathlib.Omega.{arith}
use native.Mathlib.Nat.{le_trans}
use native.Mathlib.Decide.{dec_lt}
use native.Mathlib.Numerals.{add-one}
use borrow.Author.Tests.{eq-eqb, ne_eqb}
use lib.ListN.{length, get_or, length-map, get_or-map}
use Rattle.std.specs.Prelude.{Option}
use Rattle.model.specs.Limits.{max_children, unused}
use Rattle.model.specs.Lists.{concat_map, only}
use Rattle.model.specs.Order.{place}
use Rattle.model.specs.Automaton.{Automaton, arity_of}
use Rattle.model.specs.Table.{Row, row_at, SoundTable}
use Rattle.model.specs.Written.{no_rule, rule_at}
use Rattle.model.specs.Sound.{Sound}
use Rattle.model.specs.Annotation.{Memory, Annotation, empty_memory, own_memory}
use Rattle.model.proofs.Tab.{tab_at}
use Rattle.model.proofs.Rows.{in_get_d}
use Rattle.automaton.specs.Window.{FirstFrom}
use Rattle.automaton.specs.declared.State.{State}
use Rattle.membership.specs.Cells.{memory_of, annotations_in}
use Rattle.membership.specs.Index.{Indexed}
use Rattle.membership.specs.Entries.{Entry, annotations_of, entries_in, add_entries, Grown}
use Rattle.membership.specs.Search.{span, asked_state, found, Ready}
use Rattle.membership.specs.Listing.{last_step, made, no_children, rule_entries, by_rule, entries_below}
use Rattle.membership.specs.Plan.{WantFor, Starts, Before}
use Rattle.membership.specs.declared.search.Want.{Want}
use Rattle.membership.specs.declared.table.Plan.{Plan}
use Rattle.membership.proofs.Spans.{span_window}
use Rattle.membership.proofs.Adding.{Ext, length_entries, same_annotations}
use Rattle.membership.proofs.Storing.{entries_annotations}
use Rattle.membership.proofs.Turning.{Turning, turn_start, turn_front}
use Rattle.membership.proofs.Found.{Window, Asked, found_made}
use Rattle.membership.proofs.Starts.{ext_below, window_of}

pub few_children : (A : Automaton) (rows : List Row) → Sound A → SoundTable A rows → (i : ℕ) → i < length rows → length (row_at rows i).children ≤ max_children
few_children A rows sound table i l = let e = (table.each i l).as_many in let h = sound.few_children (row_at rows i).symbol in omega arith

module _ (A : Automaton) (rows : List Row) (sound : Sound A) (table : SoundTable A rows) (i room tags : ℕ) (work₀ : List ℕ) (n : ℕ) (b : Before A rows i room tags work₀ n) where
  abbrev pub known : List Annotation
  known = annotations_of (entries_below A rows i)

  abbrev pub step : ℕ → List Entry
  step = by_rule A rows known i

  abbrev pub list : List Entry
  list = entries_below A rows (suc i)

  abbrev cs : List ℕ
  cs = (row_at rows i).children

  known_is : annotations_in tags work₀ n ≡ known
  known_is = sym (entries_annotations tags work₀ n) ∙ ap annotations_of b.entries

  count_is : length (entries_below A rows i) ≡ n
  count_is = ap length (sym b.entries) ∙ length_entries tags work₀ n

  known_length : length known ≡ n
  known_length = length-map (entries_below A rows i) (λ (e : Entry). e.annotation) ∙ count_is

  -- only the rules of the row's symbol count
  module _ (low high : ℕ) (x : ℕ) (ex : x ≡ (row_at rows i).symbol) (first : FirstFrom A x low) (last : FirstFrom A (x + 1) high) where
    other : (j : ℕ) → ((rule_at A j).symbol ≡ (row_at rows i).symbol → ⊥) → step j ≡ []
    other j h = ap (λ b. only b (rule_entries A rows known i j)) (ne_eqb (rule_at A j).symbol (row_at rows i).symbol h)

    ordered : low ≤ high
    ordered = go (dec_lt high low)
      where
        go : Dec (high < low) → low ≤ high
        go (yes l) = let a = first.before high l in let c = first.within in let d = last.after high (omega arith) (omega arith) in let z : ⊥ = omega arith in absurd z
        go (no l) = omega (arith, l)

    all_rules : add_entries (entries_in tags work₀ n) (concat_map step (span low (high - low))) ≡ list
    unfolding entries_below
    all_rules =
        ap (λ l. add_entries l (concat_map step (span low (high - low)))) b.entries
        ∙ ap (add_entries (entries_below A rows i))
        (sym (span_window step low high (length A.rules) ordered last.within
        (λ j l. other j (λ e. let a = first.before j l in omega arith))
        (λ j l m. other j (λ e. let a = last.after j l m in omega arith))))

    pub rules_start : Turning step high n room tags (length work₀) list work₀ n low
    rules_start = turn_start step high n room tags (length work₀) list work₀ low b.count refl all_rules b.indexed

    pub in_symbol : (r : ℕ) → low ≤ r → r < high → (rule_at A r).symbol ≡ (row_at rows i).symbol
    in_symbol r l m = let a = last.before r m in let c = last.within in let d = first.after r l (omega arith) in omega arith

    pub in_rules : (r : ℕ) → r < high → r < length A.rules
    in_rules r m = le_trans m last.within

  -- the windows of the row's children
  module _ (starts : List ℕ) (st : Starts A rows starts i) (lows highs : List ℕ) (width : ℕ) (ew : width ≡ arity_of A (row_at rows i).symbol)
      (el : (p : ℕ) → p < width → get_or lows p 0 ≡ get_or starts (get_or cs p 0 + 0) 0)
      (eh : (p : ℕ) → p < width → get_or highs p 0 ≡ get_or starts (get_or cs p 0 + 1) 0) where
    width_is : length cs ≡ width
    width_is = (table.each i b.row).as_many ∙ sym ew

    pub few_places : width ≤ max_children
    few_places = let h = few_children A rows sound table i b.row in let e = width_is in omega arith

    child_window : (p : ℕ) → p < width → Window known (get_or cs p 0) (get_or lows p 0) (get_or highs p 0)
    child_window p l =
        let c : ℕ = get_or cs p 0 in
        let e = width_is in
        let lower : c < i = table.lower i b.row c (in_get_d 0 cs p (omega arith)) in
        let a : get_or lows p 0 ≡ length (entries_below A rows c) = el p l ∙ st (c + 0) (omega arith) ∙ (let z : c + 0 ≡ c = omega arith in ap (λ k. length (entries_below A rows k)) z) in
        let d : get_or highs p 0 ≡ length (entries_below A rows (suc c)) = eh p l ∙ st (c + 1) (omega arith) ∙ ap (λ k. length (entries_below A rows k)) (add-one c) in
        let row = b.row in
        rw (a, d) (window_of A rows (few_children A rows sound table) i (omega arith) c lower)

    pub high_in : (p : ℕ) → p < width → get_or highs p 0 ≤ n
    high_in p l = let w = (child_window p l).top in let e = known_length in omega arith

    -- what a rule of the row's symbol asks
    module _ (r : ℕ) (lr : r < length A.rules) (same_symbol : (rule_at A r).symbol ≡ (row_at rows i).symbol) (plan : Plan) (want : Want) (wf : WantFor A plan r want)
        (er : plan.row.0 ≡ i) (ea : plan.arity ≡ width) (et : plan.tags ≡ tags) (elow : plan.low ≡ lows) (ehigh : plan.high ≡ highs) (own : Memory) (eo : own ≡ own_memory A (rule_at A r).target i) where
      states_are : length (rule_at A r).children ≡ width
      states_are = sound.wellformed.as_many (rule_at A r) (in_get_d no_rule A.rules r lr) ∙ ap (arity_of A) same_symbol ∙ sym ew

      state_at_lem : (p : ℕ) → p < width → asked_state want p ≡ get_or (rule_at A r).children p 0
      state_at_lem p l =
          let f = few_places in
          let e = states_are in
          sym (get_or-map (λ (q : State). q.0) want.states p (record { 0 = 0 })) ∙ ap (λ (z : List ℕ). get_or z p 0) wf.states ∙ tab_at 0 max_children (place (rule_at A r)) p (omega arith) ∙ default (rule_at A r).children p (omega arith)
        where
          default : (l : List ℕ) (p : ℕ) → p < length l → get_or l p unused ≡ get_or l p 0
          default [] p h = let z : ⊥ = omega arith in absurd z
          default (x ∷ l) zero h = refl
          default (x ∷ l) (suc p) h = default l p (omega arith)

      asked : Asked A known want own i r cs (rule_at A r).children
      asked =
          let arity-is : want.arity ≡ width = wf.arity ∙ ea in
          record {
            row = wf.row ∙ er;
            target = wf.target;
            rule = wf.rule;
            forget = wf.forget;
            tags = wf.tags ∙ et ∙ b.tags_are;
            own_is = eo;
            rows_are = width_is ∙ sym arity-is;
            states_are = states_are ∙ sym arity-is;
            states = λ p l. state_at_lem p (subst (λ z. p < z) arity-is l);
            windows = λ p l.
                subst (λ z. Window known (get_or cs p 0) (get_or z p 0) (get_or want.high p 0)) (sym (wf.low ∙ elow))
                (subst (λ z. Window known (get_or cs p 0) (get_or lows p 0) (get_or z p 0)) (sym (wf.high ∙ ehigh)) (child_window p (subst (λ z. p < z) arity-is l)));
          }

      -- what the search finds is what the rule makes
      rule_found : (empty : Memory) → empty ≡ empty_memory A → (free : List ℕ) → free ≡ no_children → found known want own width empty free ≡ step r
      rule_found empty ee free ef =
          let arity-is : want.arity ≡ width = wf.arity ∙ ea in
          found_made A known want own i r cs (rule_at A r).children asked width 0 (omega arith) empty free
          ∙ ap (λ m. made known (last_step A i r) 0 m free cs (rule_at A r).children) ee
          ∙ ap (λ c. made known (last_step A i r) 0 (empty_memory A) c cs (rule_at A r).children) ef
          ∙ sym (ap (λ b. only b (rule_entries A rows known i r)) (eq-eqb (rule_at A r).symbol (row_at rows i).symbol same_symbol))

      module _ (high : ℕ) (work : List ℕ) (m : ℕ) (t : Turning step high n room tags (length work₀) list work m r) (eb : plan.base ≡ n) (eroom : plan.room ≡ room) where
        pub rule_ready : Ready want work m
        rule_ready =
            record {
              few_tags = let e = wf.tags in let g = b.tags_are in let h = sound.few_tags in omega arith;
              few_children = let e = wf.arity in let f = few_places in omega arith;
              known = let e = wf.base in let h = t.more in omega arith;
              count = let e = wf.room in let h = t.count in omega arith;
              few = let e = wf.room in let h = b.few in omega arith;
              space = let e = wf.room in let h = b.space in let g = t.space in omega arith;
              windows = λ p l.
                  let e = wf.base in
                  let h = high_in p (subst (λ z. p < z) (wf.arity ∙ ea) l) in
                  subst (λ (z : List ℕ). get_or z p 0 ≤ want.base) (sym (wf.high ∙ ehigh)) (omega arith);
              indexed = subst (λ z. Indexed z want.room work m) (sym (wf.tags ∙ et)) (subst (λ z. Indexed tags z work m) (sym (wf.room ∙ eroom)) t.indexed);
            }

        known_still : annotations_in tags work n ≡ known
        known_still =
            let h = t.more in
            same_annotations tags work₀ work n m list (subst (λ l. Ext l list) (sym b.entries) (subst (λ z. Ext (entries_below A rows i) (entries_below A rows z)) (add-one i) (ext_below A rows i 1))) (turn_front step high n room tags (length work₀) list work m r t) n (omega arith) h
            ∙ known_is

        pub rule_grown : (own' empty free work' : List ℕ) (m' : Option ℕ) → memory_of tags own' ≡ own → memory_of tags empty ≡ empty_memory A → free ≡ no_children → Grown m want.room want.tags (add_entries (entries_in want.tags work m) (found (annotations_in want.tags work want.base) want (memory_of want.tags own') width (memory_of want.tags empty) free)) work' m' → Grown m room tags (add_entries (entries_in tags work m) (step r)) work' m'
        rule_grown own' empty free work' m' eown ee ef g =
            let g₁ = subst (λ z. Grown m z want.tags (add_entries (entries_in want.tags work m) (found (annotations_in want.tags work want.base) want (memory_of want.tags own') width (memory_of want.tags empty) free)) work' m') (wf.room ∙ eroom) g in
            let g₂ = subst (λ z. Grown m room z (add_entries (entries_in z work m) (found (annotations_in z work want.base) want (memory_of z own') width (memory_of z empty) free)) work' m') (wf.tags ∙ et) g₁ in
            let e =
            ap (λ z. found (annotations_in tags work z) want (memory_of tags own') width (memory_of tags empty) free) (wf.base ∙ eb)
            ∙ ap (λ z. found z want (memory_of tags own') width (memory_of tags empty) free) known_still
            ∙ ap (λ z. found known want z width (memory_of tags empty) free) eown
            ∙ rule_found (memory_of tags empty) ee free ef in
            subst (λ z. Grown m room tags (add_entries (entries_in tags work m) z) work' m') e g₂
