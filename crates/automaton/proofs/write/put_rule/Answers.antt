-- `automaton::write::put_rule` meets its contract: a rule is its numbers in their order, as many as the form has. Assumes nothing.
use mathlib.Core.Path.{◌≡◌, subst}
use mathlib.Core.List.{List, [], ◌∷◌, ◌++◌, map}
use Prim.Native.Nat.{ℕ}
use lib.ListN.{length, get_or, take}
use Rattle.model.specs.Limits.{max_children}
use Rattle.model.specs.Lists.{concat_map, tab}
use Rattle.automaton.specs.declared.Form.{Form}
use Rattle.automaton.specs.declared.State.{State}
use Rattle.automaton.specs.declared.StoredRule.{StoredRule}
use Rattle.automaton.specs.Form.{rule_numbers}
use Rattle.automaton.specs.Encode.{encode_word, encode_places, Put}
use Rattle.automaton.proofs.Parts.{length_mapped}
use Rattle.automaton.proofs.Words.{rule_words}
use borrow.Author.Rules.{rules}
use Rattle.automaton.proofs.write.put_rule.Goals as goal

-- the numbers that are put are the rule

as-rule : (form : Form) (r : StoredRule) (n : ℕ) → length r.places ≡ max_children → n ≡ rule_numbers form → (out out' : List ℕ) (at end : ℕ)
    → Put out at (concat_map encode_word (take n (r.symbol ∷ r.target.0 ∷ tab max_children (λ k. (get_or r.places k (record { 0 = 0 })).0) ++ r.forget ∷ []))) out' end
    → Put out at (encode_places form r.symbol r.target.0 (map (λ (q : State). q.0) r.places) r.forget) out' end
as-rule form r n e en out out' at end p =
    subst (λ (bytes : List ℕ). Put out at bytes out' end) (rule_words (λ (q : State). q.0) (record { 0 = 0 }) form r.symbol r.target.0 r.forget n r.places e en) p

pub returns-in-Narrow : goal.returns-in-Narrow
unfolding rule_numbers
returns-in-Narrow c = as-rule c.args.form c.args.r 6 (search (length_mapped, rules)) (rw c.in-Narrow.is) _ _ _ _ c.put_words.ensures

pub returns-in-Wide : goal.returns-in-Wide
unfolding rule_numbers
returns-in-Wide c = as-rule c.args.form c.args.r 6 (search (length_mapped, rules)) (rw c.in-Wide.is) _ _ _ _ c.put_words-in-Wide.ensures

pub returns-in-Isolating : goal.returns-in-Isolating
unfolding rule_numbers
returns-in-Isolating c = as-rule c.args.form c.args.r 7 (search (length_mapped, rules)) (rw c.in-Isolating.is) _ _ _ _ c.put_words-in-Isolating.ensures
