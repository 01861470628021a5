-- A step by value put into a space. Assumes nothing.
use mathlib.Core.Path.{◌≡◌, sym, ap, ◌∙◌}
use mathlib.Core.List.{List, [], ◌∷◌}
use Prim.Native.Nat.{ℕ, ◌*◌}
use borrow.Author.Rules.{rules}
use lib.ListN.{length, get_or}
use Rattle.model.specs.Lists.{tab}
use Rattle.model.specs.Space.{put_at}
use Rattle.automaton.proofs.Parts.{length_mapped, tab_map}
use Rattle.document.specs.declared.rows.Step.{Step}
use Rattle.runs.specs.Fields.{step_numbers}
use Rattle.runs.specs.Steps.{step_cells}

-- the numbers of four places, one by one
four : (ps : List Step) → length ps ≡ 4 → (get_or ps 0 (record { 0 = 0 })).0 ∷ (get_or ps 1 (record { 0 = 0 })).0 ∷ (get_or ps 2 (record { 0 = 0 })).0 ∷ (get_or ps 3 (record { 0 = 0 })).0 ∷ [] ≡ step_numbers ps
four ps e = ap (λ (n : ℕ). tab n (λ k. (get_or ps k (record { 0 = 0 })).0)) (sym e) ∙ tab_map (λ s. s.0) (record { 0 = 0 }) ps

-- step i's six cells, the last four of which were read off the places; a is its number
pub put_fields : (out out' : List ℕ) (places : List Step) (i a rule row : ℕ) → length places ≡ 4 → a ≡ i
    → out' ≡ put_at out (a * step_cells) (rule ∷ row ∷ (get_or places 0 (record { 0 = 0 })).0 ∷ (get_or places 1 (record { 0 = 0 })).0 ∷ (get_or places 2 (record { 0 = 0 })).0 ∷ (get_or places 3 (record { 0 = 0 })).0 ∷ [])
    → out' ≡ put_at out (i * step_cells) (rule ∷ row ∷ step_numbers places)
put_fields out out' places i a rule row l e q = q ∙ (λ z. put_at out (e z * step_cells) (rule ∷ row ∷ four places l z))

pub ruleset putting = (length_mapped, put_fields, rules)
