-- The text of a tree (document 01, section "Term text"). Assumes nothing.
use Rattle.std.specs.Prelude.{List, [], ◌∷◌, ◌++◌, cond, ℕ, zero, suc, ◌+◌, ◌/◌, ◌%◌, eqb, ltb}
use Rattle.model.specs.Tree.{Tree, Forest, node, fnil, fcons}
use Rattle.names.specs.Names.{decimal}

-- 0 to 9, then a to f
unfoldable pub hex_digit : ℕ → ℕ
hex_digit n = cond (ltb n 10) (48 + n) (87 + n)

-- the last so many hex digits of a number
unfoldable pub hex_digits : ℕ → ℕ → List ℕ
hex_digits zero n = []
hex_digits (suc k) n = hex_digits k (n / 16) ++ hex_digit (n % 16) ∷ []

-- a scalar of a kind and a payload: nothing; `=true` or `=false`; `=` and a count; `~` and a rate's 16 hex digits; `#` and a name
unfoldable pub scalar_text : ℕ → ℕ → List ℕ
scalar_text zero p = []
scalar_text (suc zero) p = cond (eqb p 1) (61 ∷ 116 ∷ 114 ∷ 117 ∷ 101 ∷ []) (61 ∷ 102 ∷ 97 ∷ 108 ∷ 115 ∷ 101 ∷ [])
scalar_text (suc (suc zero)) p = 61 ∷ decimal p
scalar_text (suc (suc (suc zero))) p = 126 ∷ hex_digits 16 p
scalar_text (suc (suc (suc (suc k)))) p = 35 ∷ decimal p

unfoldable mutual
  -- a name, then a scalar or the children
  pub term_text : (ℕ → List ℕ) → Tree → List ℕ
  term_text name (node s k p f) = name s ++ behind_text name (scalar_text k p) f

  -- a scalar where there are no children; else these in brackets
  pub behind_text : (ℕ → List ℕ) → List ℕ → Forest → List ℕ
  behind_text name scalar fnil = scalar
  behind_text name scalar (fcons t f) = 40 ∷ term_text name t ++ rest_text name f

  -- behind a child: the others, a comma before each, and the closing bracket
  pub rest_text : (ℕ → List ℕ) → Forest → List ℕ
  rest_text name fnil = 41 ∷ []
  rest_text name (fcons t f) = 44 ∷ term_text name t ++ rest_text name f
