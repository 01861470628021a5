-- One row: what the loop over its rules knows, from the bytes of the set and the cells of the table. Assumes nothing.
use mathlib.Core.Path.{◌≡◌, refl, sym, ap, ◌∙◌, subst}
use mathlib.Core.List.{List, [], ◌∷◌}
use mathlib.Core.Bool.{Bool, true, false, cond}
use Prim.Native.Nat.{ℕ, zero, suc, ◌+◌, ◌<◌, ◌≤◌}
use native.Mathlib.Omega.{arith}
use lib.Dec.{eqb}
use lib.ListN.{length, get_or, replicate}
use Rattle.std.specs.Prelude.{Option, Some, None}
use Rattle.model.specs.Limits.{unused}
use Rattle.model.specs.Lists.{tab}
use Rattle.model.specs.Automaton.{Automaton, arity_of, bit?, carries?}
use Rattle.model.specs.Table.{Row, row_at, SoundTable}
use Rattle.model.specs.Written.{rule_at}
use Rattle.model.specs.Sound.{Sound}
use Rattle.model.specs.Annotation.{own_memory}
use Rattle.automaton.specs.Stored.{decode}
use Rattle.automaton.specs.Check.{check_of}
use Rattle.automaton.specs.Window.{FirstFrom}
use Rattle.automaton.proofs.Sound.{sound_decode}
use Rattle.document.specs.Rows.{used, places_in, row_in, decode_rows}
use Rattle.document.specs.Check.{place_in}
use Rattle.document.proofs.Places.{row_at_lem, rows_length}
use Rattle.membership.specs.Cells.{annotations_in}
use Rattle.membership.specs.Entries.{Entry, annotations_of, entries_in, add_entries}
use Rattle.judging.specs.Entries.{Held, Grown}
use Rattle.judging.specs.Chains.{class_in}
use Rattle.judging.specs.Search.{tags_in, arity_in, base_in, room_in, low_in, high_in, class_of, Ready, Windows, Separate, Alike}
use Rattle.membership.specs.Listing.{no_children, by_rule, entries_below}
use Rattle.membership.specs.Plan.{Starts}
use Rattle.judging.specs.Plan.{Planned, RulesRead, asked_in, own_in, rule_found, Before}
use Rattle.judging.proofs.Rules.{asked_read, tags_read}
use Rattle.judging.specs.Tried.{Fresh}
use Rattle.judging.proofs.Children.{alike_same, alike_trans}
use Rattle.judging.proofs.Turning.{Turning, turn_in, turn_full, turn_end}
use Rattle.judging.proofs.ByRow.{rules_start, in_symbol, in_rules, row_separate, rule_ready, rule_windows, rule_grown}
use Rattle.membership.specs.declared.table.Plan.{Plan}
use Rattle.judging.specs.declared.table.ReadRule.{ReadRule}
use Rattle.judging.specs.declared.tried.Slot.{Slot}
use Rattle.membership.proofs.Rowing.{few_rules}

-- a used place holds its child
used_at : (ps : List ℕ) (p : ℕ) → p < length (used ps) → get_or (used ps) p 0 ≡ get_or ps p unused
used_at [] p l = let z : ⊥ = omega arith in absurd z
used_at (x ∷ ps) p l = go (eqb x unused) p l (used_at ps)
  where
    go : (b : Bool) (p : ℕ) → p < length (cond b [] (x ∷ used ps)) → ((p : ℕ) → p < length (used ps) → get_or (used ps) p 0 ≡ get_or ps p unused) → get_or (cond b [] (x ∷ used ps)) p 0 ≡ get_or (x ∷ ps) p unused
    go true p l rest = let z : ⊥ = omega arith in absurd z
    go false zero l rest = refl
    go false (suc p) l rest = rest p (omega arith)

-- a list of zeros
pub zeros : (n k : ℕ) → ◌≡◌ {A = ℕ} (get_or (replicate n 0) k 0) 0
zeros zero k = refl
zeros (suc n) zero = refl
zeros (suc n) (suc k) = zeros n k

abbrev A : List ℕ → Automaton
A s = decode s

abbrev R : List ℕ → List Row
R cells = decode_rows cells

abbrev made : List ℕ → List ℕ → ℕ → ℕ → List Entry
made s cells i = by_rule (A s) (R cells) (annotations_of (entries_below (A s) (R cells) i)) i

-- at the head of the loop over the rules of row i, with the lent arrays of slots, of children, free, and of tried memories
pub record Rowing (s cells starts : List ℕ) (rules : List ReadRule) (work₀ slots₀ : List ℕ) (i tags room n x width : ℕ) (plan : Plan) (heads links : List ℕ) (end r₀ : ℕ) (work slots free : List ℕ) (cells' : List Slot) (m r : ℕ) : Type 0 where
  pub ok : check_of s ≡ 0
  pub table : SoundTable (A s) (R cells)
  pub before : Before (A s) (R cells) i room tags work₀ slots₀ n
  pub started : Starts (A s) (R cells) starts i
  pub symbol_is : x ≡ (row_in cells i).symbol
  pub width_is : width ≡ arity_of (A s) x
  pub planned : Planned cells starts i tags width n room width plan
  pub first : FirstFrom (A s) x r₀
  pub last : FirstFrom (A s) (x + 1) end
  pub above : r₀ ≤ r
  pub read : RulesRead (A s) (length (A s).rules) rules
  pub alike : Alike 0 width no_children free
  pub few : r ≤ 1024
  pub fresh : Fresh i r cells'
  pub windows : Windows (class_in work₀) plan (arity_in plan) heads links
  pub turning : Turning (made s cells i) end n room tags (length work₀) (entries_below (A s) (R cells) (suc i)) work slots m r

-- what a sound set and table give of a row
module _ (s cells : List ℕ) (i : ℕ) (ok : check_of s ≡ 0) (table : SoundTable (A s) (R cells)) (l : i < length (R cells)) where
  pub row_is : row_at (R cells) i ≡ row_in cells i
  row_is = row_at_lem cells i (let e = rows_length cells in omega arith)

  pub row_small : i < 65535
  row_small = let h = table.few_rows in omega arith

  pub symbol_small : (x : ℕ) → x ≡ (row_in cells i).symbol → x < 64
  symbol_small x e =
      let k = (table.each i l).known in
      let f = (sound_decode s ok).few_symbols in
      let q = ap (λ (r : Row). r.symbol) row_is in
      omega arith

  pub width_small : (x width : ℕ) → width ≡ arity_of (A s) x → width ≤ 4
  width_small x width e = let h = (sound_decode s ok).few_children x in omega arith

-- the row, its children and their windows
module _ (s cells starts work₀ slots₀ : List ℕ) (i tags room n x width : ℕ) (plan : Plan) (ok : check_of s ≡ 0) (table : SoundTable (A s) (R cells)) (before : Before (A s) (R cells) i room tags work₀ slots₀ n) (started : Starts (A s) (R cells) starts i) (ex : x ≡ (row_in cells i).symbol) (ew : width ≡ arity_of (A s) x) (planned : Planned cells starts i tags width n room width plan) where
  sound_of : Sound (A s)
  sound_of = sound_decode s ok

  here : row_at (R cells) i ≡ row_in cells i
  here = row_is s cells i ok table before.row

  symbol_of_lem : x ≡ (row_at (R cells) i).symbol
  symbol_of_lem = ex ∙ ap (λ (r : Row). r.symbol) (sym here)

  width_of : width ≡ arity_of (A s) (row_at (R cells) i).symbol
  width_of = ew ∙ ap (arity_of (A s)) symbol_of_lem

  as_many : length (row_at (R cells) i).children ≡ width
  as_many = (table.each i before.row).as_many ∙ sym width_of

  child_is : (p : ℕ) → p < width → place_in cells i p ≡ get_or (row_at (R cells) i).children p 0
  unfolding place_in
  child_is p l =
      sym (used_at (places_in cells i) p (subst (λ (q : Row). p < length q.children) here (let e = as_many in omega arith))) ∙ ap (λ (q : Row). get_or q.children p 0) (sym here)

  low_of : (p : ℕ) → p < width → low_in plan p ≡ get_or starts (get_or (row_at (R cells) i).children p 0) 0
  low_of p l = planned.low p l ∙ ap (λ c. get_or starts c 0) (child_is p l)

  high_of : (p : ℕ) → p < width → high_in plan p ≡ get_or starts (get_or (row_at (R cells) i).children p 0 + 1) 0
  high_of p l = planned.high p l ∙ ap (λ c. get_or starts (c + 1) 0) (child_is p l)

  pub separate_of : Separate plan work₀
  separate_of = row_separate (A s) (R cells) sound_of table i room tags work₀ slots₀ n before starts started plan width width_of planned.tags_are planned.arity_is planned.base_is planned.room_is low_of high_of

module _ (s cells starts : List ℕ) (rules : List ReadRule) (work₀ slots₀ : List ℕ) (i tags room n x width : ℕ) (plan : Plan) (heads links : List ℕ) (end r₀ : ℕ) where
  pub rowing_start : check_of s ≡ 0 → SoundTable (A s) (R cells) → Before (A s) (R cells) i room tags work₀ slots₀ n → Starts (A s) (R cells) starts i → x ≡ (row_in cells i).symbol → width ≡ arity_of (A s) x → Planned cells starts i tags width n room width plan → FirstFrom (A s) x r₀ → FirstFrom (A s) (x + 1) end → RulesRead (A s) (length (A s).rules) rules → (tried : List Slot) → Fresh i 0 tried → Windows (class_in work₀) plan (arity_in plan) heads links → Rowing s cells starts rules work₀ slots₀ i tags room n x width plan heads links end r₀ work₀ slots₀ no_children tried n r₀
  rowing_start ok table before started ex ew planned first last read tried fresh windows =
      record {
        ok = ok;
        table = table;
        before = before;
        started = started;
        symbol_is = ex;
        width_is = ew;
        planned = planned;
        first = first;
        last = last;
        above = omega arith;
        read = read;
        alike = alike_same 0 width no_children;
        few = let h = first.within in let f = few_rules s ok in omega arith;
        fresh = λ k l. let f = fresh k l in omega arith;
        windows = windows;
        turning = rules_start (A s) (R cells) (sound_decode s ok) table i room tags work₀ slots₀ n before r₀ end x (ex ∙ ap (λ (r : Row). r.symbol) (sym (row_is s cells i ok table before.row))) first last;
      }

  module _ (work slots free : List ℕ) (tried : List Slot) (m r : ℕ) (h : Rowing s cells starts rules work₀ slots₀ i tags room n x width plan heads links end r₀ work slots free tried m r) where
    sound : Sound (A s)
    sound = sound_decode s h.ok

    symbol_here : x ≡ (row_at (R cells) i).symbol
    symbol_here = symbol_of_lem s cells starts work₀ slots₀ i tags room n x width plan h.ok h.table h.before h.started h.symbol_is h.width_is h.planned

    width_here : width ≡ arity_of (A s) (row_at (R cells) i).symbol
    width_here = width_of s cells starts work₀ slots₀ i tags room n x width plan h.ok h.table h.before h.started h.symbol_is h.width_is h.planned

    low_at : (p : ℕ) → p < width → low_in plan p ≡ get_or starts (get_or (row_at (R cells) i).children p 0) 0
    low_at = low_of s cells starts work₀ slots₀ i tags room n x width plan h.ok h.table h.before h.started h.symbol_is h.width_is h.planned

    high_at : (p : ℕ) → p < width → high_in plan p ≡ get_or starts (get_or (row_at (R cells) i).children p 0 + 1) 0
    high_at = high_of s cells starts work₀ slots₀ i tags room n x width plan h.ok h.table h.before h.started h.symbol_is h.width_is h.planned

    pub next_ready : Ready plan work slots m × (width ≤ arity_in plan)
    next_ready =
        let p = h.planned in
        let e = p.arity_is in
        (rule_ready (A s) (R cells) sound h.table i room tags work₀ slots₀ n h.before starts h.started plan width width_here p.tags_are p.arity_is p.base_is p.room_is low_at high_at end work slots m r h.turning, omega arith)

    pub next_windows : Windows (class_of (annotations_in (tags_in plan) work (base_in plan))) plan (arity_in plan) heads links
    next_windows =
        let p = h.planned in
        rule_windows (A s) (R cells) sound h.table i room tags work₀ slots₀ n h.before starts h.started plan width width_here p.tags_are p.arity_is p.base_is p.room_is low_at high_at end work slots m r h.turning heads links h.windows

    module _ (l : r < end) where
      same_symbol : (rule_at (A s) r).symbol ≡ (row_at (R cells) i).symbol
      same_symbol = in_symbol (A s) (R cells) sound h.table i room tags work₀ slots₀ n h.before r₀ end x symbol_here h.first h.last r h.above l

      pub known_rule : r < length (A s).rules
      known_rule = in_rules (A s) (R cells) sound h.table i room tags work₀ slots₀ n h.before r₀ end x symbol_here h.first h.last r l

      own_is : own_in rules (tags_in plan) i r ≡ own_memory (A s) (rule_at (A s) r).target i
      own_is =
          ap (λ z. tab (tags_in plan) (λ k. cond (bit? z k) (suc i) 0)) (tags_read (A s) (length (A s).rules) rules h.read r known_rule)
          ∙ ap (λ t. tab t (λ k. cond (carries? (A s) (rule_at (A s) r).target k) (suc i) 0)) (h.planned.tags_are ∙ h.before.tags_are)

      pub few_here : (i < 1024) × (r < 1024)
      few_here =
          let row = h.before.row in
          let rows = h.table.few_rows in
          let rule = known_rule in
          let rules = few_rules s h.ok in
          (omega arith, omega arith)

      grown : (work' slots' : List ℕ) (m' : Option ℕ) → Grown m (room_in plan) (tags_in plan) (add_entries (entries_in (tags_in plan) work m) (rule_found (annotations_in (tags_in plan) work (base_in plan)) plan rules i r free)) work' slots' m' → Grown m room tags (add_entries (entries_in tags work m) (made s cells i r)) work' slots' m'
      grown work' slots' m' g =
          let p = h.planned in
          rule_grown (A s) (R cells) sound h.table i room tags work₀ slots₀ n h.before starts h.started plan width width_here p.tags_are p.arity_is p.base_is p.room_is low_at high_at end work slots m r h.turning known_rule same_symbol (asked_in rules i r) (asked_read (A s) (length (A s).rules) rules h.read r known_rule i) (own_memory (A s) (rule_at (A s) r).target i) refl
          (own_in rules (tags_in plan) i r) free work' slots' m' own_is h.alike g

      free_after : (free' : List ℕ) → Alike 0 (arity_in plan) free free' → Alike 0 width no_children free'
      free_after free' a =
          alike_trans 0 width no_children free free' h.alike (subst (λ k. Alike 0 k free free') h.planned.arity_is a)

      pub rowing_more : (work' slots' free' : List ℕ) (tried' : List Slot) (m' : ℕ) → Grown m (room_in plan) (tags_in plan) (add_entries (entries_in (tags_in plan) work m) (rule_found (annotations_in (tags_in plan) work (base_in plan)) plan rules i r free)) work' slots' (Some m') → Alike 0 (arity_in plan) free free' → Fresh i (r + 1) tried' → length work' ≡ length work → Rowing s cells starts rules work₀ slots₀ i tags room n x width plan heads links end r₀ work' slots' free' tried' m' (r + 1)
      rowing_more work' slots' free' tried' m' g a t' e =
          record {
            ok = h.ok;
            table = h.table;
            before = h.before;
            started = h.started;
            symbol_is = h.symbol_is;
            width_is = h.width_is;
            planned = h.planned;
            first = h.first;
            last = h.last;
            above = let a = h.above in omega arith;
            read = h.read;
            alike = free_after free' a;
            few = let k = known_rule in let f = few_rules s h.ok in omega arith;
            fresh = t';
            windows = h.windows;
            turning = turn_in (made s cells i) end n room tags (length work₀) (entries_below (A s) (R cells) (suc i)) work slots m r h.turning l work' slots' m' (grown work' slots' (Some m') g) e;
          }

      pub rowing_full : (work' slots' : List ℕ) → Grown m (room_in plan) (tags_in plan) (add_entries (entries_in (tags_in plan) work m) (rule_found (annotations_in (tags_in plan) work (base_in plan)) plan rules i r free)) work' slots' None → room < length (entries_below (A s) (R cells) (suc i))
      rowing_full work' slots' g = turn_full (made s cells i) end n room tags (length work₀) (entries_below (A s) (R cells) (suc i)) work slots m r h.turning l (grown work' slots' None g)

    pub rowing_all : end ≤ r → Held n room tags (entries_below (A s) (R cells) (suc i)) work slots m × Fresh (suc i) 0 tried
    rowing_all l = (turn_end (made s cells i) end n room tags (length work₀) (entries_below (A s) (R cells) (suc i)) work slots m r h.turning l, λ k g. let f = h.fresh k g in let e = h.few in omega arith)
