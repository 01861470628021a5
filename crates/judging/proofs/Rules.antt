-- The rules read once for all rows, rule by rule, and what a row reads of them. Assumes nothing.
use mathlib.Core.Path.{◌≡◌, refl, sym, ap, ◌∙◌}
use mathlib.Core.List.{List, [], ◌∷◌, map}
use Prim.Native.Nat.{ℕ, ◌<◌, ◌≤◌}
use lib.ListN.{length, get_or}
use Rattle.model.specs.Limits.{max_children}
use Rattle.model.specs.Lists.{tab}
use Rattle.model.specs.Order.{place}
use Rattle.model.specs.Automaton.{Automaton, state_at}
use Rattle.model.specs.Written.{rule_at}
use Rattle.automaton.specs.declared.State.{State}
use Rattle.judging.specs.Plan.{read_of, unread, RulesRead, asked_by, asked_in}
use Rattle.judging.specs.declared.table.ReadRule.{ReadRule}

module _ (A : Automaton) where
  pub record Reading (n : ℕ) (rules : List ReadRule) (r : ℕ) : Type 0 where
    pub inside : r ≤ n
    pub wide : 1024 ≤ length rules
    pub done : RulesRead A r rules

  -- what is asked by what is read is what the automaton asks
  module _ (n : ℕ) (rules : List ReadRule) (read : RulesRead A n rules) (r : ℕ) (l : r < n) where
    pub asked_read : (i : ℕ) → asked_in rules i r ≡ asked_by A i r
    asked_read i = λ x. record { row = record { 0 = i }; rule = r; target = (read r l x).target; forget = (read r l x).forget; states = (read r l x).states }

    pub tags_read : (get_or rules r unread).tags ≡ (state_at A (rule_at A r).target).mask
    tags_read = ap (λ (x : ReadRule). x.tags) (read r l)

-- a rule's target, the target's tags, the tags that the rule forgets, and its children's states
again : (l : List State) → map (λ (q : ℕ). record { 0 = q }) (map (λ (x : State). x.0) l) ≡ l
again [] = refl
again (x ∷ l) = ap (λ (t : List State). x ∷ t) (again l)

pub read_one : (A : Automaton) (r : ℕ) (read : ReadRule) → read.target.0 ≡ (rule_at A r).target → read.tags ≡ (state_at A read.target.0).mask → read.forget ≡ (rule_at A r).forget → map (λ (x : State). x.0) read.states ≡ tab max_children (place (rule_at A r)) → read ≡ read_of A r
read_one A r read eq em ef el =
    let tags = em ∙ ap (λ q. (state_at A q).mask) eq in
    let states = sym (again read.states) ∙ ap (map (λ (q : ℕ). record { 0 = q })) el in
    λ x. record { target = record { 0 = eq x }; tags = tags x; forget = ef x; states = states x }
