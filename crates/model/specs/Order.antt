-- The order of rules in the stored form (document 01, section "Sets"). Assumes nothing.
use Rattle.std.specs.Prelude.{List, [], ◌∷◌, ◌++◌, Bool, false, ◌&&◌, ◌||◌, cond, ℕ, T, eqb, ltb, get_or}
use Rattle.model.specs.Limits.{max_children, unused}
use Rattle.model.specs.Lists.{tab}
use Rattle.model.specs.Automaton.{Rule}

-- a rule's child places, left to right: a place that the symbol does not use holds 65535
abbrev pub place : Rule → ℕ → ℕ
place r k = get_or r.children k unused

-- what rules are sorted by: the symbol, then the child places, then the target
abbrev pub key : Rule → List ℕ
key r = r.symbol ∷ tab max_children (place r) ++ r.target ∷ []

-- the first place at which two lists of one length differ has the lower number in the first
abbrev pub lower? : List ℕ → List ℕ → Bool
lower? [] b = false
lower? (x ∷ a) [] = false
lower? (x ∷ a) (y ∷ b) = ltb x y || eqb x y && lower? a b

abbrev pub before? : Rule → Rule → Bool
before? r s = lower? (key r) (key s)

-- each rule stands before the next
abbrev pub Ascending : List Rule → Type 0
Ascending [] = Unit {0}
Ascending (r ∷ []) = Unit {0}
Ascending (r ∷ s ∷ rs) = T (before? r s) × Ascending (s ∷ rs)

-- the rule put in its place, after all that stand before it
abbrev pub insert : Rule → List Rule → List Rule
insert r [] = r ∷ []
insert r (s ∷ rs) = cond (before? s r) (s ∷ insert r rs) (r ∷ s ∷ rs)

abbrev pub sorted : List Rule → List Rule
sorted [] = []
sorted (r ∷ rs) = insert r (sorted rs)
