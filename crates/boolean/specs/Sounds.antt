-- What each combination owes: the union and the product are sound, and have the first set's symbols. Assumes nothing.
use Rattle.std.specs.Prelude.{◌≡◌, refl, List, ℕ, ◌≤◌}
use mathlib.Core.Path.{subst}
use Rattle.model.specs.Limits.{max_states, max_rules}
use Rattle.model.specs.Automaton.{Automaton}
use Rattle.model.specs.Sound.{Sound}
use Rattle.model.specs.Boolean.{union, product}
use Rattle.model.proofs.SoundUnion.{union_states, union_rules_lem, union_sound}
use Rattle.model.proofs.SoundProduct.{product_states, product_rules, product_sound}
use Rattle.automaton.specs.Stored.{decode}
use Rattle.automaton.proofs.Sound.{sound_decode}
use Rattle.boolean.specs.Ready.{Ready}

module _ (first second : List ℕ) where
  abbrev A : Automaton
  A = decode first

  abbrev B : Automaton
  B = decode second

  pub ready_union : Ready first second (union A B) → Sound (union A B)
  ready_union h =
      union_sound A B (sound_decode first h.first_sound) (sound_decode second h.second_sound) h.same
      (subst (λ (n : ℕ). n ≤ max_states) (union_states A B) h.states) h.tags (subst (λ (n : ℕ). n ≤ max_rules) (union_rules_lem A B) h.rules)

  pub ready_product : Ready first second (product A B) → Sound (product A B)
  ready_product h =
      product_sound A B (sound_decode first h.first_sound) (sound_decode second h.second_sound) h.same
      (subst (λ (n : ℕ). n ≤ max_states) (product_states A B) h.states) h.tags (subst (λ (n : ℕ). n ≤ max_rules) (product_rules A B) h.rules)

pub union_symbols : (A B : Automaton) → (union A B).arities ≡ A.arities
union_symbols A B = refl

pub product_symbols : (A B : Automaton) → (product A B).arities ≡ A.arities
product_symbols A B = refl
