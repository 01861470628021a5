-- A loop that adds what it makes of each number of a window to the entries in the work space: what it knows at its head, and what it may return. Assumes nothing.
use mathlib.Core.Path.{◌≡◌, sym, ap, ◌∙◌, subst}
use mathlib.Core.List.{List, []}
use Prim.Native.Nat.{ℕ, ◌+◌, ◌-◌, ◌<◌, ◌≤◌}
use native.Mathlib.Omega.{arith}
use native.Mathlib.Nat.{le_trans, le_refl}
use lib.ListN.{length}
use Rattle.model.specs.Lists.{concat_map}
use Rattle.judging.specs.Index.{Indexed}
use Rattle.membership.specs.Entries.{Entry, entries_in, add_entries}
use Rattle.judging.specs.Entries.{Held}
use Rattle.membership.specs.Search.{span}
use Rattle.judging.proofs.Spans.{span_more, span_end, span_jump}
use Rattle.membership.proofs.Adding.{add_append, add_nothing, Ext, ext_length, ext_entries}

-- with what the numbers from j on make, the entries become the list
pub record Turning (f : ℕ → List Entry) (high n room tags long : ℕ) (list : List Entry) (work slots : List ℕ) (m j : ℕ) : Type 0 where
  pub more : n ≤ m
  pub count : m ≤ room
  pub space : length work ≡ long
  pub rest : add_entries (entries_in tags work m) (concat_map f (span j (high - j))) ≡ list
  pub indexed : Indexed tags room work slots m

module _ (f : ℕ → List Entry) (high n room tags long : ℕ) (list : List Entry) where
  pub turn_start : (work slots : List ℕ) (j : ℕ) → n ≤ room → length work ≡ long → add_entries (entries_in tags work n) (concat_map f (span j (high - j))) ≡ list → Indexed tags room work slots n → Turning f high n room tags long list work slots n j
  turn_start work slots j l e h x = record { more = le_refl n; count = l; space = e; rest = h; indexed = x }

  module _ (work slots : List ℕ) (m j : ℕ) (t : Turning f high n room tags long list work slots m j) where
    pub turn_front : Ext (entries_in tags work m) list
    turn_front = subst (Ext (entries_in tags work m)) t.rest (ext_entries (concat_map f (span j (high - j))) (entries_in tags work m))

    -- one number apart
    turned : j < high → add_entries (add_entries (entries_in tags work m) (f j)) (concat_map f (span (j + 1) (high - (j + 1)))) ≡ list
    turned l = sym (add_append (f j) (concat_map f (span (j + 1) (high - (j + 1)))) (entries_in tags work m)) ∙ ap (add_entries (entries_in tags work m)) (sym (span_more f j high l)) ∙ t.rest

    pub turn_skip : j < high → f j ≡ [] → Turning f high n room tags long list work slots m (j + 1)
    turn_skip l e =
        record {
          more = t.more;
          count = t.count;
          space = t.space;
          rest = ap (λ x. add_entries x (concat_map f (span (j + 1) (high - (j + 1))))) (sym (add_nothing (entries_in tags work m)) ∙ ap (add_entries (entries_in tags work m)) (sym e)) ∙ turned l;
          indexed = t.indexed;
        }

    pub turn_jump : (k : ℕ) → j ≤ k → k ≤ high → ((x : ℕ) → j ≤ x → x < k → f x ≡ []) → Turning f high n room tags long list work slots m k
    turn_jump k a b h =
        record {
          more = t.more;
          count = t.count;
          space = t.space;
          rest = ap (add_entries (entries_in tags work m)) (sym (span_jump f j k high a b h)) ∙ t.rest;
          indexed = t.indexed;
        }

    module _ (l : j < high) where
      pub turn_in : (work' slots' : List ℕ) (m' : ℕ) → Held m room tags (add_entries (entries_in tags work m) (f j)) work' slots' m' → length work' ≡ length work → Turning f high n room tags long list work' slots' m' (j + 1)
      turn_in work' slots' m' g e =
          record {
            more = le_trans t.more g.more;
            count = g.count;
            space = e ∙ t.space;
            rest = ap (λ x. add_entries x (concat_map f (span (j + 1) (high - (j + 1))))) g.held ∙ turned l;
            indexed = g.indexed;
          }

      pub turn_full : room < length (add_entries (entries_in tags work m) (f j)) → room < length list
      turn_full h =
          let x = ext_length (add_entries (entries_in tags work m) (f j)) list (subst (Ext (add_entries (entries_in tags work m) (f j))) (turned l) (ext_entries (concat_map f (span (j + 1) (high - (j + 1)))) (add_entries (entries_in tags work m) (f j)))) in
          omega arith

    pub turn_end : high ≤ j → Held n room tags list work slots m
    turn_end l =
        record {
          more = t.more;
          count = t.count;
          held = sym (add_nothing (entries_in tags work m)) ∙ ap (add_entries (entries_in tags work m)) (sym (span_end f j high l)) ∙ t.rest;
          indexed = t.indexed;
        }
