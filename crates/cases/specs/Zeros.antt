-- The two zeros of document 02, Wish 6: the example of document 01 with them, and the rates, rows and texts beside them. Assumes nothing.
use Rattle.std.specs.Prelude.{◌≡◌, List, [], ◌∷◌, ◌++◌, true, false, ℕ, ◌+◌, ◌-◌, ◌^◌, replicate, pos}
use Rattle.std.specs.Float.{fin, binary64}
use Rattle.std.specs.Float.Ieee.{neg, eq, of_bits}
use Rattle.model.specs.Refusal.{gives}
use Rattle.model.specs.Table.{minus_zero, rate?, one_zero, scalar?}
use Rattle.automaton.specs.Stored.{decode}
use Rattle.document.specs.Check.{table_check_of}
use Rattle.term.specs.Zeros.{zeros_one}
use Rattle.spelling.specs.Write.{write_of}
use Rattle.cases.specs.Sets.{set_e}
use Rattle.cases.specs.Cases.{pair_names, pair, cells_from, Case, judged, AllHold}

-- a rate's digits: the two zeros, and the rate next to minus zero
abbrev pub plus : List ℕ
plus = replicate 16 48

abbrev pub minus : List ℕ
minus = 56 ∷ replicate 15 48

abbrev pub below : List ℕ
below = 56 ∷ replicate 14 48 ++ 49 ∷ []

-- texts: a~.., pair(a~..,a~..)
abbrev pub a~ : List ℕ → List ℕ
a~ digits = 97 ∷ 126 ∷ digits

abbrev pub rates : List ℕ → List ℕ → List ℕ
rates x y = pair (a~ x) (a~ y)

-- a table of one row: a with a kind and a payload, by its four cells
abbrev pub row : ℕ → List ℕ → List ℕ
row kind payload = 1 ∷ 65535 ∷ 65535 ∷ 65535 ∷ 65535 ∷ kind ∷ payload

-- The example, which was no; two minus zeros; and a zero with the rate next to the other.
abbrev pub zero_cases : List Case
zero_cases = judged set_e pair_names (rates plus minus) 2 true 2 ∷ judged set_e pair_names (rates minus minus) 2 true 2 ∷ judged set_e pair_names (rates plus below) 3 false 2 ∷ []

pub record TwoZeros : Type 0 where
  -- minus zero is the toolchain's zero with a minus sign, which equals the other zero as a float
  pub float : (of_bits binary64 minus_zero ≡ neg (of_bits binary64 0)) × (of_bits binary64 0 ≡ fin false 0 (pos 0)) × (eq (of_bits binary64 minus_zero) (of_bits binary64 0) ≡ true)
  -- it alone may not stand in a row: its neighbours, the infinities and NaNs may, and so may the count with these bits
  pub standing :
      (rate? minus_zero ≡ false) × (rate? (minus_zero - 1) ≡ true) × (rate? (minus_zero + 1) ≡ true) × (rate? 0 ≡ true)
      × (rate? 9218868437227405312 ≡ true) × (rate? 18442240474082181120 ≡ true) × (rate? 18444492273895866368 ≡ true) × (rate? (2 ^ 64 - 1) ≡ true) × (rate? (2 ^ 64) ≡ false)
      × (scalar? 2 minus_zero ≡ true)
  -- it becomes zero, its neighbour and a NaN with its sign stay
  pub becomes : (one_zero minus_zero ≡ 0) × (one_zero (minus_zero + 1) ≡ minus_zero + 1) × (one_zero 18444492273895866368 ≡ 18444492273895866368) × (one_zero 0 ≡ 0)
  pub example : AllHold zero_cases
  -- given in a row it is 14; its neighbour and the count are not
  pub given :
      (table_check_of (decode set_e) (row 3 (0 ∷ 0 ∷ 0 ∷ 32768 ∷ [])) ≡ 14)
      × (table_check_of (decode set_e) (row 3 (1 ∷ 0 ∷ 0 ∷ 32768 ∷ [])) ≡ 0)
      × (table_check_of (decode set_e) (row 2 (0 ∷ 0 ∷ 0 ∷ 32768 ∷ [])) ≡ 0)
  -- a text writes back with zeros
  pub written : write_of set_e pair_names [] (cells_from set_e pair_names (rates plus minus)) 43 ≡ gives (rates plus plus)
  -- the text with its zeros made one: no other digits change, nor these without `~`
  pub text : (zeros_one (rates minus minus) ≡ rates plus plus) × (zeros_one (rates plus below) ≡ rates plus below) × (zeros_one (97 ∷ 61 ∷ minus) ≡ 97 ∷ 61 ∷ minus) × (zeros_one (126 ∷ minus ++ minus) ≡ 126 ∷ plus ++ minus)
