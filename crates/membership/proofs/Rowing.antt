-- One row: what the loop over its rules knows, from the bytes of the set and the cells of the table. Assumes nothing.
use mathlib.Core.Path.{◌≡◌, refl, sym, ap, ◌∙◌, subst}
use mathlib.Core.List.{List, [], ◌∷◌}
use mathlib.Core.Bool.{Bool, true, false, cond}
use Prim.Native.Nat.{ℕ, zero, suc, ◌+◌, ◌<◌, ◌≤◌}
use native.Mathlib.Omega.{arith}
use lib.Dec.{eqb}
use lib.ListN.{length, get_or, replicate}
use Rattle.std.specs.Prelude.{Option, Some, None}
use Rattle.model.specs.Limits.{unused}
use Rattle.model.specs.Lists.{tab}
use Rattle.model.specs.Automaton.{Automaton, arity_of, state_at, bit?, carries?}
use Rattle.model.specs.Table.{Row, row_at, SoundTable}
use Rattle.model.specs.Written.{rule_at}
use Rattle.model.specs.Sound.{Sound}
use Rattle.model.specs.Annotation.{empty_memory, own_memory}
use Rattle.automaton.specs.Stored.{decode}
use Rattle.automaton.specs.Check.{check_of}
use Rattle.automaton.specs.Window.{FirstFrom}
use Rattle.automaton.proofs.Parts.{tab_same}
use Rattle.automaton.proofs.Sound.{sound_decode}
use Rattle.document.specs.Rows.{used, places_in, row_in, decode_rows}
use Rattle.document.specs.Check.{place_in}
use Rattle.document.proofs.Places.{row_at_lem, rows_length}
use Rattle.membership.specs.Cells.{memory_of, annotations_in}
use Rattle.membership.specs.Entries.{Entry, annotations_of, entries_in, add_entries, Held, Grown}
use Rattle.membership.specs.Search.{found, Ready}
use Rattle.membership.specs.Listing.{no_children, by_rule, entries_below}
use Rattle.membership.specs.Plan.{Bounds, WantFor, Starts, Before}
use Rattle.membership.specs.declared.search.Want.{Want}
use Rattle.membership.specs.declared.table.Plan.{Plan}
use Rattle.membership.proofs.Turning.{Turning, turn_in, turn_full, turn_end}
use Rattle.membership.proofs.ByRow.{rules_start, in_symbol, in_rules, rule_ready, rule_grown}

-- a used place holds its child
used_at : (ps : List ℕ) (p : ℕ) → p < length (used ps) → get_or (used ps) p 0 ≡ get_or ps p unused
used_at [] p l = let z : ⊥ = omega arith in absurd z
used_at (x ∷ ps) p l = go (eqb x unused) p l (used_at ps)
  where
    go : (b : Bool) (p : ℕ) → p < length (cond b [] (x ∷ used ps)) → ((p : ℕ) → p < length (used ps) → get_or (used ps) p 0 ≡ get_or ps p unused) → get_or (cond b [] (x ∷ used ps)) p 0 ≡ get_or (x ∷ ps) p unused
    go true p l rest = let z : ⊥ = omega arith in absurd z
    go false zero l rest = refl
    go false (suc p) l rest = rest p (omega arith)

-- a memory of zeros
pub zeros_memory : (tags : ℕ) (A : Automaton) (l : List ℕ) → tags ≡ A.tags → ((k : ℕ) → get_or l k 0 ≡ 0) → memory_of tags l ≡ empty_memory A
unfolding memory_of
zeros_memory tags A l e h = tab_same tags (λ k. get_or l k 0) (λ k. 0) (λ k m. h k) ∙ ap (λ n. tab n (λ k. 0)) e

pub zeros : (n k : ℕ) → ◌≡◌ {A = ℕ} (get_or (replicate n 0) k 0) 0
zeros zero k = refl
zeros (suc n) zero = refl
zeros (suc n) (suc k) = zeros n k

abbrev A : List ℕ → Automaton
A s = decode s

abbrev R : List ℕ → List Row
R cells = decode_rows cells

abbrev made : List ℕ → List ℕ → ℕ → ℕ → List Entry
made s cells i = by_rule (A s) (R cells) (annotations_of (entries_below (A s) (R cells) i)) i

-- at the head of the loop over the rules of row i
pub record Rowing (s cells starts work₀ : List ℕ) (i tags room n x width : ℕ) (lows highs : List ℕ) (end r₀ : ℕ) (work : List ℕ) (m r : ℕ) : Type 0 where
  pub ok : check_of s ≡ 0
  pub table : SoundTable (A s) (R cells)
  pub before : Before (A s) (R cells) i room tags work₀ n
  pub started : Starts (A s) (R cells) starts i
  pub symbol_is : x ≡ (row_in cells i).symbol
  pub width_is : width ≡ arity_of (A s) x
  pub low_is : Bounds cells starts i width 0 lows
  pub high_is : Bounds cells starts i width 1 highs
  pub first : FirstFrom (A s) x r₀
  pub last : FirstFrom (A s) (x + 1) end
  pub above : r₀ ≤ r
  pub turning : Turning (made s cells i) end n room tags (length work₀) (entries_below (A s) (R cells) (suc i)) work m r

-- what a sound set and table give of a row
module _ (s cells : List ℕ) (i : ℕ) (ok : check_of s ≡ 0) (table : SoundTable (A s) (R cells)) (l : i < length (R cells)) where
  pub row_is : row_at (R cells) i ≡ row_in cells i
  row_is = row_at_lem cells i (let e = rows_length cells in omega arith)

  pub row_small : i < 65535
  row_small = let h = table.few_rows in omega arith

  pub symbol_small : (x : ℕ) → x ≡ (row_in cells i).symbol → x < 64
  symbol_small x e =
      let k = (table.each i l).known in
      let f = (sound_decode s ok).few_symbols in
      let q = ap (λ (r : Row). r.symbol) row_is in
      omega arith

  pub width_small : (x width : ℕ) → width ≡ arity_of (A s) x → width ≤ 4
  width_small x width e = let h = (sound_decode s ok).few_children x in omega arith

pub few_rules : (s : List ℕ) → check_of s ≡ 0 → length (A s).rules ≤ 1024
few_rules s ok = (sound_decode s ok).few_rules

pub tags_small : (s : List ℕ) (tags : ℕ) → check_of s ≡ 0 → tags ≡ (A s).tags → tags ≤ 16
tags_small s tags ok e = let h = (sound_decode s ok).few_tags in omega arith

module _ (s cells starts work₀ : List ℕ) (i tags room n x width : ℕ) (lows highs : List ℕ) (end r₀ : ℕ) where
  pub rowing_start : check_of s ≡ 0 → SoundTable (A s) (R cells) → Before (A s) (R cells) i room tags work₀ n → Starts (A s) (R cells) starts i → x ≡ (row_in cells i).symbol → width ≡ arity_of (A s) x → Bounds cells starts i width 0 lows → Bounds cells starts i width 1 highs → FirstFrom (A s) x r₀ → FirstFrom (A s) (x + 1) end → Rowing s cells starts work₀ i tags room n x width lows highs end r₀ work₀ n r₀
  rowing_start ok table before started ex ew bl bh first last =
      record {
        ok = ok;
        table = table;
        before = before;
        started = started;
        symbol_is = ex;
        width_is = ew;
        low_is = bl;
        high_is = bh;
        first = first;
        last = last;
        above = omega arith;
        turning = rules_start (A s) (R cells) (sound_decode s ok) table i room tags work₀ n before r₀ end x (ex ∙ ap (λ (r : Row). r.symbol) (sym (row_is s cells i ok table before.row))) first last;
      }

  module _ (work : List ℕ) (m r : ℕ) (h : Rowing s cells starts work₀ i tags room n x width lows highs end r₀ work m r) where
    sound : Sound (A s)
    sound = sound_decode s h.ok

    here : row_at (R cells) i ≡ row_in cells i
    here = row_is s cells i h.ok h.table h.before.row

    symbol_here : x ≡ (row_at (R cells) i).symbol
    symbol_here = h.symbol_is ∙ ap (λ (r : Row). r.symbol) (sym here)

    width_here : width ≡ arity_of (A s) (row_at (R cells) i).symbol
    width_here = h.width_is ∙ ap (arity_of (A s)) symbol_here

    as_many : length (row_at (R cells) i).children ≡ width
    as_many = (h.table.each i h.before.row).as_many ∙ sym width_here

    child_is : (p : ℕ) → p < width → place_in cells i p ≡ get_or (row_at (R cells) i).children p 0
    unfolding place_in
    child_is p l =
        sym (used_at (places_in cells i) p (subst (λ (q : Row). p < length q.children) here (let e = as_many in omega arith))) ∙ ap (λ (q : Row). get_or q.children p 0) (sym here)

    bound_at : (shift : ℕ) (out : List ℕ) → Bounds cells starts i width shift out → (p : ℕ) → p < width → get_or out p 0 ≡ get_or starts (get_or (row_at (R cells) i).children p 0 + shift) 0
    bound_at shift out b p l = b p l ∙ ap (λ c. get_or starts (c + shift) 0) (child_is p l)

    module _ (l : r < end) (plan : Plan) (want : Want) (wf : WantFor (A s) plan r want) (er : plan.row.0 ≡ i) (et : plan.tags ≡ tags) (ea : plan.arity ≡ width) (eb : plan.base ≡ n) (eroom : plan.room ≡ room) (elow : plan.low ≡ lows) (ehigh : plan.high ≡ highs) where
      same_symbol : (rule_at (A s) r).symbol ≡ (row_at (R cells) i).symbol
      same_symbol = in_symbol (A s) (R cells) sound h.table i room tags work₀ n h.before r₀ end x symbol_here h.first h.last r h.above l

      known_rule : r < length (A s).rules
      known_rule = in_rules (A s) (R cells) sound h.table i room tags work₀ n h.before r₀ end x symbol_here h.first h.last r l

      pub next_ready : Ready want work m
      next_ready =
          rule_ready (A s) (R cells) sound h.table i room tags work₀ n h.before starts h.started lows highs width width_here (bound_at 0 lows h.low_is) (bound_at 1 highs h.high_is) r known_rule same_symbol plan want wf er ea et elow ehigh (own_memory (A s) (rule_at (A s) r).target i) refl end work m h.turning eb eroom

      -- the target's tags
      module _ (mask : ℕ) (own : List ℕ) (em : mask ≡ (state_at (A s) want.target.0).mask) (eo : memory_of tags own ≡ tab tags (λ k. cond (bit? mask k) (suc i) 0)) where
        own_is : memory_of tags own ≡ own_memory (A s) (rule_at (A s) r).target i
        own_is =
            eo
            ∙ ap (λ z. tab tags (λ k. cond (bit? z k) (suc i) 0)) em
            ∙ ap (λ q. tab tags (λ k. cond (carries? (A s) q k) (suc i) 0)) wf.target
            ∙ ap (λ t. tab t (λ k. cond (carries? (A s) (rule_at (A s) r).target k) (suc i) 0)) h.before.tags_are

        module _ (empty free : List ℕ) (zeros : (k : ℕ) → get_or empty k 0 ≡ 0) (ef : free ≡ no_children) where
          grown : (work' : List ℕ) (m' : Option ℕ) → Grown m want.room want.tags (add_entries (entries_in want.tags work m) (found (annotations_in want.tags work want.base) want (memory_of want.tags own) width (memory_of want.tags empty) free)) work' m' → Grown m room tags (add_entries (entries_in tags work m) (made s cells i r)) work' m'
          grown work' m' g =
              rule_grown (A s) (R cells) sound h.table i room tags work₀ n h.before starts h.started lows highs width width_here (bound_at 0 lows h.low_is) (bound_at 1 highs h.high_is) r known_rule same_symbol plan want wf er ea et elow ehigh (own_memory (A s) (rule_at (A s) r).target i) refl end work m h.turning eb eroom
              own empty free work' m' own_is (zeros_memory tags (A s) empty h.before.tags_are zeros) ef g

          pub rowing_more : (work' : List ℕ) (m' : ℕ) → Grown m want.room want.tags (add_entries (entries_in want.tags work m) (found (annotations_in want.tags work want.base) want (memory_of want.tags own) width (memory_of want.tags empty) free)) work' (Some m') → length work' ≡ length work → Rowing s cells starts work₀ i tags room n x width lows highs end r₀ work' m' (r + 1)
          rowing_more work' m' g e =
              record {
                ok = h.ok;
                table = h.table;
                before = h.before;
                started = h.started;
                symbol_is = h.symbol_is;
                width_is = h.width_is;
                low_is = h.low_is;
                high_is = h.high_is;
                first = h.first;
                last = h.last;
                above = let a = h.above in omega arith;
                turning = turn_in (made s cells i) end n room tags (length work₀) (entries_below (A s) (R cells) (suc i)) work m r h.turning l work' m' (grown work' (Some m') g) e;
              }

          pub rowing_full : (work' : List ℕ) → Grown m want.room want.tags (add_entries (entries_in want.tags work m) (found (annotations_in want.tags work want.base) want (memory_of want.tags own) width (memory_of want.tags empty) free)) work' None → room < length (entries_below (A s) (R cells) (suc i))
          rowing_full work' g = turn_full (made s cells i) end n room tags (length work₀) (entries_below (A s) (R cells) (suc i)) work m r h.turning l (grown work' None g)

    pub rowing_all : end ≤ r → Held n room tags (entries_below (A s) (R cells) (suc i)) work m
    rowing_all l = turn_end (made s cells i) end n room tags (length work₀) (entries_below (A s) (R cells) (suc i)) work m r h.turning l
