-- What the reader's parts work on and answer: rows so far in cells, with an index over them. Assumes nothing.
use Rattle.std.specs.Prelude.{◌≡◌, cond, ℕ, ◌<◌, ltb, length, set, Result, Ok, Err}
use mathlib.Core.List.{List, [], Memᴰ as In}
use Rattle.model.specs.Limits.{max_children, unused}
use Rattle.model.specs.Automaton.{arity_of}
use Rattle.automaton.specs.Stored.{decode}
use Rattle.document.specs.Rows.{rows_below, places_of}
use Rattle.document.specs.Fields.{as_row, as_rows, numbers_of}
pub use Rattle.document.specs.Builder.{Ready}
use Rattle.document.specs.declared.rows.Row as number
use Rattle.document.specs.declared.scalar.Scalar.{Scalar}
use Rattle.document.specs.declared.fields.RowFields.{RowFields}
use Rattle.names.specs.Names.{find_in}
use Rattle.names.specs.Table.{name_in}
use Rattle.term.specs.Grammar.{Setting, Outcome, good, refused, Named, named, unnamed}
use Rattle.base.specs.Refusals as refusals
use Rattle.base.specs.declared.refusal.TextRefusal.{TextRefusal}
use Rattle.term.specs.declared.reader.TermEnd.{TermEnd}

-- a stored set, a table of names for so many symbols, and the most rows
abbrev pub setting_of : List ℕ → List ℕ → ℕ → ℕ → Setting
setting_of set names symbols limit = record { symbol = find_in symbols (name_in names); arity = arity_of (decode set); limit = limit }

-- a row by value without children
abbrev pub childless : ℕ → Scalar → RowFields
childless symbol scalar = record { symbol = symbol; places = as_rows (places_of []); scalar = scalar }

-- a row by value with row j as child k; past the last place the places stay as they are
abbrev pub with_child : RowFields → ℕ → number.Row → RowFields
with_child f k j = record { symbol = f.symbol; places = cond (ltb k max_children) (set f.places k j) f.places; scalar = f.scalar }

-- the children js are so many, and the first of them are in the places
pub record Held (js : List ℕ) (count : ℕ) (places : List number.Row) : Type 0 where
  pub number : count ≡ length js
  pub first : numbers_of places ≡ places_of js
  pub rows : (j : ℕ) → In j js → j < unused

-- what an answer, with the cells and slots left behind, says of what was to be read
abbrev pub Says : List ℕ → List ℕ → ℕ → Result TermEnd TextRefusal → Outcome ℕ → Type 0
Says cells slots limit r (good j next rows) = (r ≡ Ok (record { row = as_row j; next = next; used = length rows })) × (rows ≡ rows_below cells (length rows)) × Ready cells slots (length rows) limit
Says cells slots limit r (refused w p) = (e : TextRefusal) × (r ≡ Err e) × (refusals.number e.refusal ≡ w) × (e.place ≡ p)

abbrev pub named_of : Result (ℕ × ℕ) TextRefusal → Named
named_of (Ok s) = named s.0 s.1
named_of (Err e) = unnamed (refusals.number e.refusal) e.place
