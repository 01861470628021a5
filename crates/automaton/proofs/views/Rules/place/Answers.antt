-- `automaton::views::Rules::place` meets its contract: the child places stand after two numbers. Assumes nothing.
use mathlib.Core.Path.{◌≡◌, ap, ◌∙◌}
use mathlib.Core.List.{List}
use Prim.Native.Nat.{ℕ, ◌+◌, ◌*◌}
use native.Mathlib.Omega.{arith}
use Rattle.automaton.specs.Form.{rule_width}
use Rattle.automaton.specs.Stored.{word, rules_at, form_of, rule_word}
use Rattle.automaton.specs.declared.Form.{Form}
use Rattle.automaton.proofs.views.Rules.place.Goals as goal

after_two : (s : List ℕ) (form : Form) (i k first at n : ℕ) → form ≡ form_of s → first ≡ rules_at s → at ≡ first + rule_width form * i → n ≡ word s (at + 4 + 2 * k) → n ≡ rule_word s i (k + 2)
unfolding rule_word
after_two s form i k first at n d e f h =
    let g : at + 4 + 2 * k ≡ rules_at s + rule_width (form_of s) * i + 2 * (k + 2) = rw (← d) (omega arith) in
    h ∙ ap (word s) g

pub returns : goal.returns
returns c = after_two _ _ _ _ _ _ _ c.args.self.in_form c.args.self.at_first c.rule_place.ensures.0 c.number_at.ensures.0
