-- What the answers of `read` mean for an input that is read to its end. Assumes nothing.
use Rattle.std.specs.Prelude.{◌≡◌, List, ℕ, zero, suc, ◌+◌, ◌-◌, ◌≤◌, ◌<◌, length, take, drop, Option, Some, None, Result, Ok, Err}
use Rattle.std.specs.Io.KnownBytes.{Consumes, Keeps, IsAtEnd}

-- an `Err` is a failure and never the end, 0 is the end, any other is so many bytes more
abbrev pub after_read : {E : Type 0} → ℕ → Result ℕ E → Result (Option ℕ) E
after_read done (Ok zero) = Ok None
after_read done (Ok (suc k)) = Ok (Some (done + suc k))
after_read done (Err e) = Err e

-- bytes that come are more than there were, and fit
abbrev pub Ahead : {E : Type 0} → ℕ → ℕ → Result (Option ℕ) E → Type 0
Ahead done most (Ok (Some n)) = (done < n) × (n ≤ most)
Ahead done most (Ok None) = Unit
Ahead done most (Err e) = Unit

-- The bytes of a whole input stand at the front of its space. The second part follows from the first; with it a caller can lend the part.
abbrev pub Within : {E : Type 0} → Result ℕ E → List ℕ → Type 0
Within (Ok n) space = (n ≤ length space) × (n ≡ length (take n space))
Within (Err e) space = Unit

-- Of a reader whose bytes are known, before and after one read: those that came stand behind the `done` ones, the input ended only where none are left, and a read that failed took none.
abbrev pub HeardOf : {E : Type 0} → Option (List ℕ) → Option (List ℕ) → ℕ → Result (Option ℕ) E → List ℕ → Type 0
HeardOf old new done (Ok (Some n)) space = Consumes old new (take (n - done) (drop done space))
HeardOf old new done (Ok None) space = Keeps old new × IsAtEnd new
HeardOf old new done (Err e) space = Keeps old new

-- Of a reader whose bytes are known, before and after: those that came stand at the front of the space, and it is whole only where none are left or the space is full.
abbrev pub ReceivedOf : {E : Type 0} → Option (List ℕ) → Option (List ℕ) → Result ℕ E → List ℕ → Type 0
ReceivedOf old new (Ok n) space = Consumes old new (take n space) × (n < length space → IsAtEnd new)
ReceivedOf old new (Err e) space = (k : ℕ) × (k ≤ length space) × Consumes old new (take k space)
