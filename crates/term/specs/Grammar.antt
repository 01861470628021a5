-- Terms and argument lists, read from left to right into rows in order of first finishing; the first fault counts (document 01, sections "Term text" and "Turned away, by place", text). Assumes nothing.
use Rattle.std.specs.Prelude.{List, [], ◌∷◌, ◌++◌, true, false, cond, ℕ, zero, suc, ◌+◌, ◌-◌, eqb, ltb, length}
use Rattle.std.proofs.Math.Option.{Option, none, some}
use Rattle.names.specs.Names.{letter?}
use Rattle.model.specs.Table.{Row}
use Rattle.model.specs.Build.{find_row}
use Rattle.term.specs.Scan.{byte_at, Got, got, fault, name_at, Scalar, scalar, scalar_at}

-- what a text is read against: the symbol of a name, a symbol's number of children, and the most rows
pub record Setting : Type 0 where
  pub symbol : List ℕ → Option ℕ
  pub arity : ℕ → ℕ
  pub limit : ℕ

-- what was read, the place after it and the rows so far; or a refusal's number and place
pub data Outcome (A : Type 0) : Type 0 where
  good : A → ℕ → List Row → Outcome A
  refused : ℕ → ℕ → Outcome A

abbrev pub row_of : ℕ → Scalar → List ℕ → Row
row_of s k js = record { symbol = s; kind = k.kind; payload = k.payload; children = js }

-- the row's number, where there is one like it; else it is added; 67 at the term's first byte where there is no room
abbrev pub place_row : ℕ → ℕ → Row → ℕ → List Row → Option ℕ → Outcome ℕ
place_row limit at r next rows (some i) = good i next rows
place_row limit at r next rows none = cond (ltb (length rows) limit) (good (length rows) next (rows ++ r ∷ [])) (refused 67 at)

-- the term that began at `at` ends: 66 there where its number of children is wrong, then 67
unfoldable pub end_term : (ℕ → ℕ) → ℕ → ℕ → Row → ℕ → List Row → Outcome ℕ
end_term arity limit at r next rows = cond (eqb (length r.children) (arity r.symbol)) (place_row limit at r next rows (find_row r rows)) (refused 66 at)

-- the end of a term after its argument list, and after its scalar
abbrev pub after_args : Setting → ℕ → ℕ → Outcome (List ℕ) → Outcome ℕ
after_args S at s (good js next rows) = end_term S.arity S.limit at (row_of s (scalar 0 0) js) next rows
after_args S at s (refused n p) = refused n p

abbrev pub after_scalar : Setting → ℕ → ℕ → List Row → Got Scalar → Outcome ℕ
after_scalar S at s rows (got k next) = end_term S.arity S.limit at (row_of s k []) next rows
after_scalar S at s rows (fault p) = refused 63 p

-- one more child in front
abbrev pub with_first : ℕ → Outcome (List ℕ) → Outcome (List ℕ)
with_first j (good js next rows) = good (j ∷ js) next rows
with_first j (refused n p) = refused n p

-- an argument list after its bracket, by a reader of its terms: terms with commas, then a bracket; of so many terms, for which the bytes left are enough
unfoldable pub read_args : (ℕ → List Row → Outcome ℕ) → List ℕ → ℕ → ℕ → List Row → Outcome (List ℕ)
read_args term t zero at rows = refused 63 at
read_args term t (suc n) at rows =
    elim (term at rows) [
      | refused w p ↦ refused w p
      | good j next more ↦ elim (eqb (byte_at t next) 44) [
        | true ↦ with_first j (read_args term t n (next + 1) more)
        | false ↦ cond (eqb (byte_at t next) 41) (good (j ∷ []) (next + 1) more) (refused 63 next)
      ]
    ]

-- a symbol and the place after its name; or a refusal's number and place
pub data Named : Type 0 where
  named : ℕ → ℕ → Named
  unnamed : ℕ → ℕ → Named

abbrev pub known_as : ℕ → ℕ → Option ℕ → Named
known_as at next (some s) = named s next
known_as at next none = unnamed 65 at

abbrev pub symbol_of : (List ℕ → Option ℕ) → ℕ → Got (List ℕ) → Named
symbol_of symbol at (got name next) = known_as at next (symbol name)
symbol_of symbol at (fault p) = unnamed 63 p

-- a term of at most so many levels: 63 where there is no letter, 64 at a letter past the last level, the name, then an argument list or a scalar
unfoldable pub read_term : Setting → List ℕ → ℕ → ℕ → List Row → Outcome ℕ
read_term S t zero at rows = refused (cond (letter? (byte_at t at)) 64 63) at
read_term S t (suc l) at rows =
    elim (letter? (byte_at t at)) [
      | false ↦ refused 63 at
      | true ↦ elim (symbol_of S.symbol at (name_at t at)) [
        | unnamed w p ↦ refused w p
        | named s next ↦ elim (eqb (byte_at t next) 40) [
          | true ↦ after_args S at s (read_args (read_term S t l) t (length t - (next + 1)) (next + 1) rows)
          | false ↦ after_scalar S at s rows (scalar_at t next)
        ]
      ]
    ]
