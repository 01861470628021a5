-- How answers become one 64-bit number in the C interface. Assumes nothing.
use Rattle.std.specs.Prelude.{◌≡◌, List, ℕ, ◌+◌, ◌-◌, ◌*◌, ◌^◌, min, Result, Ok, Err}
use Rattle.std.specs.Prelude as std
use Rattle.std.proofs.Math.Option.{Option, none, some}
use Rattle.model.specs.Refusal.{Answer, gives, refuses}
use Rattle.base.specs.declared.refusal.Refusal.{Refusal}
use Rattle.base.specs.declared.refusal.TextRefusal.{TextRefusal}
use Rattle.base.specs.Refusals.{number}
use Rattle.membership.specs.Judge.{Judging}
use Rattle.term.specs.Read.{Reading, rows_read, refused_at}
use Rattle.jsonrows.specs.Read.{Reading as JsonReading, rows_read as json_rows, refused_at as json_refused}

-- a refusal: the highest bit, the place cut at 2^55 - 1, and the number in the lowest byte
abbrev pub refusal_code : ℕ → ℕ → ℕ
refusal_code number place = 2 ^ 63 + min place (2 ^ 55 - 1) * 256 + number

-- an answer: its value as a number, or its refusal, which has no place
abbrev pub code_of : {A : Type 0} → (A → ℕ) → Answer A → ℕ
code_of value (gives a) = value a
code_of value (refuses n) = refusal_code n 0

-- a check: 0 where nothing is refused
abbrev pub check_code : Answer (Unit {0}) → ℕ
check_code = code_of (λ u. 0)

-- union, product, the moves between forms and the writer: how many bytes were written
abbrev pub count_code : Answer ℕ → ℕ
count_code = code_of (λ n. n)

-- emptiness: 0 for dead; the rows and, above the lowest 16 bits, the levels for live
abbrev pub shape_code : Option (ℕ × ℕ) → ℕ
shape_code none = 0
shape_code (some (n, h)) = n + 65536 * h

abbrev pub witness_code : Answer (Option (ℕ × ℕ)) → ℕ
witness_code = code_of shape_code

-- a text: the number of rows that were written, or its refusal with its place
abbrev pub read_code : Reading ℕ → ℕ
read_code (rows_read n) = n
read_code (refused_at n p) = refusal_code n p

-- the same of a JSON text
abbrev pub json_code : JsonReading ℕ → ℕ
json_code (json_rows n) = n
json_code (json_refused n p) = refusal_code n p

-- a text: what is answered, whichever reader it is
abbrev pub text_code : Result ℕ TextRefusal → ℕ
text_code (Ok n) = n
text_code (Err t) = refusal_code (number t.refusal) t.place

-- a judging: 0 for no, the number of steps for a yes, which is never 0; its refusals have no place
abbrev pub judged_code : Result (std.Option ℕ) Refusal → ℕ
judged_code (Ok (std.Some s)) = s
judged_code (Ok std.None) = 0
judged_code (Err r) = refusal_code (number r) 0

-- the number r stands for an answer of the judge, which leaves the spaces as that answer asks
pub record JudgingCode (set cells work run : List ℕ) (r : ℕ) (work' run' : List ℕ) : Type 0 where
  pub answer : Result (std.Option ℕ) Refusal
  pub coded : r ≡ judged_code answer
  pub judging : Judging set cells work run answer work' run'
