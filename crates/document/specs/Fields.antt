-- Rows by value, also as read from a lent space of rows. Assumes nothing.
use Rattle.std.specs.Prelude.{List, map, cond, ℕ, eqb, Option, Some, None}
use Rattle.model.specs.Limits.{unused}
use Rattle.model.specs.Table.{Row}
use Rattle.document.specs.declared.rows.Row as number
use Rattle.document.specs.declared.scalar.Scalar.{Scalar}
use Rattle.document.specs.declared.scalar.Scalar.TheVariants.{Bare}
use Rattle.document.specs.declared.fields.RowFields.{RowFields}
use Rattle.document.specs.Rows.{used, places_in, row_in}
use Rattle.document.specs.Scalars.{kind_of, payload_of, decode_scalar}

-- a row's number by value, and the numbers of several
abbrev pub as_row : ℕ → number.Row
as_row i = record { 0 = i }

abbrev pub as_rows : List ℕ → List number.Row
as_rows places = map as_row places

abbrev pub numbers_of : List number.Row → List ℕ
numbers_of places = map (λ r. r.0) places

-- the row that the fields are: its children are the places up to the first unused one
abbrev pub fields_row : RowFields → Row
fields_row f = record { symbol = f.symbol; kind = kind_of f.scalar; payload = payload_of f.scalar; children = used (numbers_of f.places) }

-- a place, unused where the one before it is
abbrev pub place_after : ℕ → ℕ → ℕ
place_after last x = cond (eqb last unused) unused x

-- the scalar, bare where there is none
abbrev pub or_bare : Option Scalar → Scalar
or_bare (Some s) = s
or_bare None = Bare

-- row i by value
unfoldable pub fields_in : List ℕ → ℕ → RowFields
fields_in cells i =
    record {
      symbol = (row_in cells i).symbol;
      places = as_rows (places_in cells i);
      scalar = or_bare (decode_scalar (row_in cells i).kind (row_in cells i).payload);
    }
