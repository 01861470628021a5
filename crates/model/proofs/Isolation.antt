-- The examples of source document 000, sections 2, 3 and 6, judged by the definitions. Assumes nothing.
use mathlib.Core.Path.{◌≡◌, refl}
use mathlib.Core.List.{List, [], ◌∷◌}
use mathlib.Core.Bool.{Bool, true, false}
use Prim.Native.Nat.{ℕ}
use Rattle.model.specs.Automaton.{Rule, State, Automaton}
use Rattle.model.specs.Table.{Row}
use Rattle.model.specs.Annotation.{accepts?}

abbrev rule : ℕ → List ℕ → ℕ → ℕ → Rule
rule s cs q f = record { symbol = s; children = cs; target = q; forget = f }

abbrev state : Bool → ℕ → State
state b m = record { final = b; mask = m }

abbrev leaf : ℕ → ℕ → Row
leaf s p = record { symbol = s; kind = 2; payload = p; children = [] }

abbrev tree : ℕ → List ℕ → Row
tree s cs = record { symbol = s; kind = 0; payload = 0; children = cs }

-- P, lists of equal pairs: p/2 (0), cons/2 (1), nil/0 (2), a/0 (3); states q_F (0, tag 0), q_p (1), q* (2, final)
abbrev pairs : ℕ → Automaton
pairs f =
    record {
      arities = 2 ∷ 2 ∷ 0 ∷ 0 ∷ [];
      states = state false 1 ∷ state false 0 ∷ state true 0 ∷ [];
      tags = 1;
      rules = rule 0 (0 ∷ 0 ∷ []) 1 f ∷ rule 1 (1 ∷ 2 ∷ []) 2 0 ∷ rule 2 [] 2 0 ∷ rule 3 [] 0 0 ∷ [];
    }

-- [p(a=1,a=1), p(a=2,a=2)]
abbrev two : List Row
two = leaf 3 1 ∷ tree 0 (0 ∷ 0 ∷ []) ∷ leaf 3 2 ∷ tree 0 (2 ∷ 2 ∷ []) ∷ tree 2 [] ∷ tree 1 (3 ∷ 4 ∷ []) ∷ tree 1 (1 ∷ 5 ∷ []) ∷ []

-- [p(a=1,a=2)]
abbrev unequal : List Row
unequal = leaf 3 1 ∷ leaf 3 2 ∷ tree 0 (0 ∷ 1 ∷ []) ∷ tree 2 [] ∷ tree 1 (2 ∷ 3 ∷ []) ∷ []

pairs_two : accepts? (pairs 1) two ≡ true
pairs_two = refl

-- without forgetting the two pairs would have to be one
pairs_one : accepts? (pairs 0) two ≡ false
pairs_one = refl

-- the printed formula, which looks only at what is left, would let this in
pairs_unequal : accepts? (pairs 1) unequal ≡ false
pairs_unequal = refl

-- D, lists of doubled elements: cons/2 (0), nil/0 (1), a/0 (2); states q_F (0, tag 0), q₁ (1, final), q₂ (2)
abbrev doubled : Automaton
doubled =
    record {
      arities = 2 ∷ 0 ∷ 0 ∷ [];
      states = state false 1 ∷ state true 0 ∷ state false 0 ∷ [];
      tags = 1;
      rules = rule 0 (0 ∷ 1 ∷ []) 2 0 ∷ rule 0 (0 ∷ 2 ∷ []) 1 1 ∷ rule 1 [] 1 0 ∷ rule 2 [] 0 0 ∷ [];
    }

-- [1,1,2,2] and [1,2,2,1]
doubled_yes : accepts? doubled (leaf 2 1 ∷ leaf 2 2 ∷ tree 1 [] ∷ tree 0 (1 ∷ 2 ∷ []) ∷ tree 0 (1 ∷ 3 ∷ []) ∷ tree 0 (0 ∷ 4 ∷ []) ∷ tree 0 (0 ∷ 5 ∷ []) ∷ []) ≡ true
doubled_yes = refl

doubled_not : accepts? doubled (leaf 2 1 ∷ leaf 2 2 ∷ tree 1 [] ∷ tree 0 (0 ∷ 2 ∷ []) ∷ tree 0 (1 ∷ 3 ∷ []) ∷ tree 0 (1 ∷ 4 ∷ []) ∷ tree 0 (0 ∷ 5 ∷ []) ∷ []) ≡ false
doubled_not = refl

-- B, balanced trees (section 6), with two tagged states, and with one that its own rule forgets: f/2 (0), a/0 (1)
abbrev balanced : Automaton
balanced = record { arities = 2 ∷ 0 ∷ []; states = state true 1 ∷ state true 2 ∷ []; tags = 2; rules = rule 0 (0 ∷ 0 ∷ []) 1 1 ∷ rule 0 (1 ∷ 1 ∷ []) 0 2 ∷ rule 1 [] 0 0 ∷ [] }

abbrev alone : Automaton
alone = record { arities = 2 ∷ 0 ∷ []; states = state true 1 ∷ []; tags = 1; rules = rule 0 (0 ∷ 0 ∷ []) 0 1 ∷ rule 1 [] 0 0 ∷ [] }

-- f(f(f(a,a),f(a,a)),f(f(a,a),f(a,a))), and f(f(a,a),a)
abbrev high : List Row
high = tree 1 [] ∷ tree 0 (0 ∷ 0 ∷ []) ∷ tree 0 (1 ∷ 1 ∷ []) ∷ tree 0 (2 ∷ 2 ∷ []) ∷ []

abbrev lopsided : List Row
lopsided = tree 1 [] ∷ tree 0 (0 ∷ 0 ∷ []) ∷ tree 0 (1 ∷ 0 ∷ []) ∷ []

balanced_high : accepts? balanced high ≡ true
balanced_high = refl

balanced_not : accepts? balanced lopsided ≡ false
balanced_not = refl

alone_high : accepts? alone high ≡ true
alone_high = refl

alone_not : accepts? alone lopsided ≡ false
alone_not = refl

-- Two readings of one row in one state: top/2 (0), h/2 (1), f/2 (2), a/0 (3); an a is tagged (0) or not (1), f has one tagged a, and h asks that this a and its own be equal, then forgets.
-- In top(h(f(a=1,a=2),a=1),h(f(a=1,a=2),a=2)) the row of f stands in state 2 with either a tagged, so one step for a pair of row and state is not enough.
abbrev readings : ℕ → Automaton
readings f =
    record {
      arities = 2 ∷ 2 ∷ 2 ∷ 0 ∷ [];
      states = state false 1 ∷ state false 0 ∷ state false 0 ∷ state false 0 ∷ state true 0 ∷ [];
      tags = 1;
      rules = rule 0 (3 ∷ 3 ∷ []) 4 0 ∷ rule 1 (2 ∷ 0 ∷ []) 3 f ∷ rule 2 (0 ∷ 1 ∷ []) 2 0 ∷ rule 2 (1 ∷ 0 ∷ []) 2 0 ∷ rule 3 [] 0 0 ∷ rule 3 [] 1 0 ∷ [];
    }

abbrev both : List Row
both = leaf 3 1 ∷ leaf 3 2 ∷ tree 2 (0 ∷ 1 ∷ []) ∷ tree 1 (2 ∷ 0 ∷ []) ∷ tree 1 (2 ∷ 1 ∷ []) ∷ tree 0 (3 ∷ 4 ∷ []) ∷ []

two_readings : accepts? (readings 1) both ≡ true
two_readings = refl

one_reading : accepts? (readings 0) both ≡ false
one_reading = refl
