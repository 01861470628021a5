-- What the reader's parts work on and answer: rows so far in cells with an index over them, and the texts that have numbers by the places where they first stand. Assumes nothing.
use Rattle.std.specs.Prelude.{◌≡◌, false, cond, ℕ, ◌+◌, ◌-◌, ◌*◌, ◌<◌, ◌≤◌, eqb, length, get_or, Result, Ok, Err}
use mathlib.Core.List.{List, [], ◌∷◌, Memᴰ as In}
use Rattle.std.proofs.Math.Option.{none, some}
use Rattle.base.specs.Text.{Got, got, fault}
use Rattle.model.specs.Limits.{max_rows}
use Rattle.model.specs.Lists.{tab}
use Rattle.model.specs.Table.{Row, Lower}
use Rattle.model.specs.Build.{eq_row, find_row}
use Rattle.document.specs.Rows.{rows_below}
use Rattle.document.specs.Fields.{as_row}
use Rattle.document.specs.Index.{Indexed}
use Rattle.document.specs.Builder.{Ready}
use Rattle.document.specs.declared.builder.Placed.{Placed}
use Rattle.document.specs.declared.builder.Placed.TheVariants.{Known, Added, Full}
use Rattle.document.specs.declared.scalar.Scalar.TheVariants.{Name}
use Rattle.jsontext.specs.Strings.{string_at}
use Rattle.jsontext.specs.Decoded.{text_slot}
use Rattle.jsonrows.specs.Signature.{other, text_leaf}
use Rattle.jsonrows.specs.Grammar.{Built, built, Outcome, good, refused, leaf_row}
use Rattle.base.specs.Refusals.{number}
use Rattle.base.specs.declared.refusal.Refusal.TheVariants.{TextRows}
use Rattle.base.specs.declared.refusal.TextRefusal.{TextRefusal}
use Rattle.jsonrows.specs.declared.rows.Part.{Part}
use Rattle.jsonrows.specs.declared.tables.Tables.{Tables}
use Rattle.jsonrows.specs.declared.tables.Counts.{Counts}

-- what stands before the value in a member's row: the text of a key that is not listed
abbrev pub key_rows : ℕ → ℕ → List ℕ
key_rows symbol key = cond (eqb symbol other) (key ∷ []) []

-- the decoded bytes, none where there is no string
abbrev pub bytes_of : Got (List ℕ) → List ℕ
bytes_of (got bs n) = bs
bytes_of (fault p) = []

-- text k, whose opening quote stands at place `starts` k
abbrev pub text_at : List ℕ → List ℕ → ℕ → List ℕ
text_at t starts k = bytes_of (string_at t (get_or starts k 0))

-- so many texts by number
abbrev pub texts_in : List ℕ → List ℕ → ℕ → List (List ℕ)
texts_in t starts n = tab n (text_at t starts)

-- so many rows in cells, and so many texts of t
abbrev pub built_in : List ℕ → List ℕ → List ℕ → ℕ → ℕ → Built
built_in t cells starts used texts = built (rows_below cells used) (texts_in t starts texts)

-- a whole string stands at a place
pub record Whole (t : List ℕ) (i : ℕ) : Type 0 where
  pub bytes : List ℕ
  pub next : ℕ
  pub string : string_at t i ≡ got bytes next

-- The cells and slots hold so many rows, the starts and the found so many texts, each of which has a row, told behind the starts.
pub record Holds (t cells slots starts found : List ℕ) (used texts limit : ℕ) : Type 0 where
  pub ready : Ready cells slots used limit
  pub size : length starts ≡ 2 * max_rows
  pub whole : (k : ℕ) → k < texts → Whole t (get_or starts k 0)
  pub distinct : (j k : ℕ) → j < texts → k < texts → text_at t starts j ≡ text_at t starts k → j ≡ k
  pub indexed : Indexed found texts (λ k. text_slot (text_at t starts k))
  pub few : texts ≤ used
  pub fresh : (k : ℕ) → texts ≤ k → find_row (leaf_row text_leaf (Name k)) (rows_below cells used) ≡ none
  pub lower : Lower (rows_below cells used)
  pub leaves : (k : ℕ) → k < texts → find_row (leaf_row text_leaf (Name k)) (rows_below cells used) ≡ some (get_or starts (max_rows + k) 0)

-- A row that is not the leaf of a text still to come, and whose children are rows.
pub record Old (used texts : ℕ) (r : Row) : Type 0 where
  pub differs : (k : ℕ) → texts ≤ k → eq_row (leaf_row text_leaf (Name k)) r ≡ false
  pub below : (j : ℕ) → In j r.children → j < used

-- A row was read, after so many texts that stay as they were.
pub record After (t cells slots starts found old : List ℕ) (before limit : ℕ) (r : Result Part TextRefusal) (j next : ℕ) (b : Built) : Type 0 where
  pub used : ℕ
  pub texts : ℕ
  pub answer : r ≡ Ok (record { row = as_row j; next = next; counts = record { used = used; texts = texts } })
  pub is : b ≡ built_in t cells starts used texts
  pub holds : Holds t cells slots starts found used texts limit
  pub inside : j < used
  pub behind : 0 < next
  pub more : before ≤ texts
  pub same : (k : ℕ) → k < before → get_or starts k 0 ≡ get_or old k 0

-- What an answer, with the cells, slots, starts and found left behind, says of what was to be read.
pub data Says (t cells slots starts found old : List ℕ) (before limit : ℕ) (r : Result Part TextRefusal) : Outcome → Type 0 where
  says_read : {j next : ℕ} {b : Built} → After t cells slots starts found old before limit r j next b → Says t cells slots starts found old before limit r (good j next b)
  says_refused : {e : TextRefusal} → r ≡ Err e → Says t cells slots starts found old before limit r (refused (number e.refusal) e.place)

-- what the builder's answer for a row that ends before `next` becomes
abbrev pub part_after : ℕ → ℕ → ℕ → Placed → Result Part TextRefusal
part_after next used texts (Known i) = Ok (record { row = i; next = next; counts = record { used = used; texts = texts } })
part_after next used texts (Added i) = Ok (record { row = i; next = next; counts = record { used = used + 1; texts = texts } })
part_after next used texts Full = Err (record { refusal = TextRows; place = next - 1 })

-- ---- the same of the reader's tables and counts

abbrev pub Held : List ℕ → Tables → Counts → ℕ → Type 0
Held t b n limit = Holds t b.rows b.slots b.starts b.found n.used n.texts limit

abbrev pub built_of : List ℕ → Tables → Counts → Built
built_of t b n = built_in t b.rows b.starts n.used n.texts

-- What an answer says, by the tables before and after.
abbrev pub SaysOf : List ℕ → Tables → Tables → Counts → ℕ → Result Part TextRefusal → Outcome → Type 0
SaysOf t before after n limit r o = Says t after.rows after.slots after.starts after.found before.starts n.texts limit r o
