-- What the answers say, and what the accessors' values stand for. Assumes nothing.
use Rattle.std.specs.Prelude.{◌≡◌, List, map, ℕ, length, Result}
use Rattle.model.specs.Limits.{max_children}
use Rattle.model.specs.Lists.{tab}
use Rattle.model.specs.Automaton.{Rule, Automaton}
use Rattle.model.specs.Order.{place}
use Rattle.model.specs.Refusal.{Answer}
use Rattle.base.specs.Refusals.{answer}
use Rattle.base.specs.declared.refusal.Refusal.{Refusal}
use Rattle.automaton.specs.Stored.{decode, stated_total}
use Rattle.automaton.specs.Check.{check_of}
use Rattle.automaton.specs.declared.StoredHeader.{StoredHeader}
use Rattle.automaton.specs.declared.StoredRule.{StoredRule}

-- what the check answers: passed, or refused with a number
abbrev pub check_answer : Result (Unit {0}) Refusal → Answer (Unit {0})
check_answer = answer (λ u. u)

-- what is answered where a set is written: how many bytes, or a refusal's number
abbrev pub written_answer : Result ℕ Refusal → Answer ℕ
written_answer = answer (λ n. n)

-- bytes that are a sound set, and the automaton that they stand for
pub record Stores (bytes : List ℕ) (A : Automaton) : Type 0 where
  pub sound : check_of bytes ≡ 0
  pub decoded : decode bytes ≡ A

-- what the header of the bytes s counts, and the total that it states
pub record Counts (h : StoredHeader) (s : List ℕ) : Type 0 where
  pub symbols : h.symbols ≡ length (decode s).arities
  pub states : h.states ≡ length (decode s).states
  pub tags : h.tags ≡ (decode s).tags
  pub rules : h.rules ≡ length (decode s).rules
  pub total : h.total ≡ stated_total s

-- x is the rule r with its child places
pub record IsRule (x : StoredRule) (r : Rule) : Type 0 where
  pub symbol : x.symbol ≡ r.symbol
  pub target : x.target.0 ≡ r.target
  pub places : map (λ q. q.0) x.places ≡ tab max_children (place r)
  pub forget : x.forget ≡ r.forget
