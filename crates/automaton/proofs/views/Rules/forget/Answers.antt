-- `automaton::views::Rules::forget` meets its contract: none, or the number behind the child places, as the form has it. Assumes nothing.
use mathlib.Core.Path.{◌≡◌, ap, ◌∙◌}
use mathlib.Core.List.{List}
use Prim.Native.Nat.{ℕ}
use Rattle.automaton.specs.Form.{kept_mask}
use Rattle.automaton.specs.Stored.{form_of, rule_word, forget_of}
use Rattle.automaton.specs.declared.Form.{Form}
use Rattle.automaton.proofs.views.Rules.forget.Goals as goal

as-form : (s : List ℕ) (i x : ℕ) (form : Form) → form ≡ form_of s → x ≡ kept_mask form (rule_word s i 6) → x ≡ forget_of s i
unfolding forget_of
as-form s i x form e h = h ∙ ap (λ (f : Form). kept_mask f (rule_word s i 6)) e

pub returns-in-Narrow : goal.returns-in-Narrow
unfolding kept_mask
returns-in-Narrow c = as-form _ _ _ _ c.args.self.in_form (rw c.in-Narrow.is)

pub returns-in-Wide : goal.returns-in-Wide
unfolding kept_mask
returns-in-Wide c = as-form _ _ _ _ c.args.self.in_form (rw c.in-Wide.is)

pub returns-in-Isolating : goal.returns-in-Isolating
unfolding kept_mask
returns-in-Isolating c = as-form _ _ _ _ c.args.self.in_form (rw c.in-Isolating.is c.word.ensures)
