-- One rule on one row: the search from the target's tags that it does not forget makes what the rule makes from no memory, and the slots are of no later rule. Assumes nothing.
use mathlib.Core.Path.{◌≡◌, ap, ◌∙◌, subst}
use mathlib.Core.List.{List}
use mathlib.Core.Bool.{cond}
use Prim.Native.Nat.{ℕ, suc, ◌+◌, ◌-◌, ◌<◌}
use native.Mathlib.Omega.{arith}
use lib.ListN.{get_or}
use Rattle.std.specs.Prelude.{Option, Some, None, IfSome}
use Rattle.model.specs.Lists.{tab}
use Rattle.model.specs.Automaton.{bit?}
use Rattle.model.specs.Annotation.{Annotation}
use Rattle.membership.specs.Cells.{memory_of, without, annotations_in}
use Rattle.judging.specs.Cells.{no_memory}
use Rattle.membership.specs.Entries.{entries_in, add_entries}
use Rattle.judging.specs.Entries.{Grown}
use Rattle.judging.specs.Search.{tags_in, arity_in, base_in, room_in, row_asked, rule_asked, forget_asked, found, Alike}
use Rattle.judging.specs.Plan.{unread, asked_in, own_in, rule_found}
use Rattle.judging.specs.Tried.{Fresh, Tried}
use Rattle.judging.proofs.Early.{from_early}
use Rattle.judging.proofs.Again.{tried_fresh, tried_after}
use Rattle.membership.specs.declared.table.Plan.{Plan}
use Rattle.judging.specs.declared.search.Want.{Want}
use Rattle.judging.specs.declared.table.ReadRule.{ReadRule}
use Rattle.judging.specs.declared.tried.Slot.{Slot}

module _ (plan : Plan) (rules : List ReadRule) (i r : ℕ) (asked : Want) (ea : asked ≡ asked_in rules i r) where
  -- before the rule
  pub rule_tried : (own work : List ℕ) (tried : List Slot) (n : ℕ) → i < 1024 → r < 1024 → Fresh i r tried → Tried plan asked own work n tried
  rule_tried own work tried n li lr f = tried_fresh plan asked own work n tried i r (ap row_asked ea) (ap rule_asked ea) li lr f

  -- after it
  pub rule_after : (own work : List ℕ) (tried : List Slot) (n : ℕ) → Tried plan asked own work n tried → Fresh i (r + 1) tried
  rule_after own work tried n t = tried_after plan asked own work n tried i r (ap row_asked ea) (ap rule_asked ea) t

  module _ (own early : List ℕ) (mask : ℕ) (em : mask ≡ (get_or rules r unread).tags) (eo : memory_of (tags_in plan) own ≡ tab (tags_in plan) (λ k. cond (bit? mask k) (suc i) 0)) where
    own_read : memory_of (tags_in plan) own ≡ own_in rules (tags_in plan) i r
    own_read = eo ∙ ap (λ z. tab (tags_in plan) (λ k. cond (bit? z k) (suc i) 0)) em

    made_is : (known : List Annotation) (c : List ℕ) → memory_of (tags_in plan) early ≡ without (tags_in plan) (forget_asked asked) (memory_of (tags_in plan) own) → found known plan asked (memory_of (tags_in plan) own) (arity_in plan) (memory_of (tags_in plan) early) c ≡ rule_found known plan rules i r c
    made_is known c ee =
        ap (λ m. found known plan asked (memory_of (tags_in plan) own) (arity_in plan) m c) ee
        ∙ from_early known plan asked (memory_of (tags_in plan) own) (λ k. cond (bit? mask k) (suc i) 0) eo (arity_in plan) c
        ∙ ap (λ o. found known plan asked o (arity_in plan) (no_memory (tags_in plan)) c) own_read
        ∙ ap (λ a. found known plan a (own_in rules (tags_in plan) i r) (arity_in plan) (no_memory (tags_in plan)) c) ea

    pub rule_made : (work work' slots' c : List ℕ) (n : ℕ) (m : Option ℕ) → memory_of (tags_in plan) early ≡ without (tags_in plan) (forget_asked asked) (memory_of (tags_in plan) own) → Grown n (room_in plan) (tags_in plan) (add_entries (entries_in (tags_in plan) work n) (found (annotations_in (tags_in plan) work (base_in plan)) plan asked (memory_of (tags_in plan) own) (arity_in plan) (memory_of (tags_in plan) early) c)) work' slots' m → Grown n (room_in plan) (tags_in plan) (add_entries (entries_in (tags_in plan) work n) (rule_found (annotations_in (tags_in plan) work (base_in plan)) plan rules i r c)) work' slots' m
    rule_made work work' slots' c n m ee g = subst (λ l. Grown n (room_in plan) (tags_in plan) (add_entries (entries_in (tags_in plan) work n) l) work' slots' m) (made_is (annotations_in (tags_in plan) work (base_in plan)) c ee) g

-- what the search leaves of the slots, as the next rule asks it
pub rule_fresh : (plan : Plan) (rules : List ReadRule) (i r : ℕ) (asked : Want) → asked ≡ asked_in rules i r → (own work : List ℕ) (tried : List Slot) (m : Option ℕ) → IfSome m (λ n. Tried plan asked own work n tried) → IfSome m (λ n. Fresh i (r + 1) tried)
rule_fresh plan rules i r asked ea own work tried None t = tt
rule_fresh plan rules i r asked ea own work tried (Some n) t = rule_after plan rules i r asked ea own work tried n t

-- all places are left
pub alike_whole : (plan : Plan) (c d : List ℕ) → Alike (arity_in plan - arity_in plan) (arity_in plan) c d → Alike 0 (arity_in plan) c d
alike_whole plan c d a = let z : arity_in plan - arity_in plan ≡ 0 = omega arith in subst (λ k. Alike k (arity_in plan) c d) z a
