-- What the reader's answers stand for. Assumes nothing.
use Rattle.std.specs.Prelude.{ℕ, Result, Ok, Err}
use Rattle.base.specs.declared.text.Fault.{Fault}
use Rattle.document.specs.Scalars.{kind_of, payload_of}
use Rattle.document.specs.declared.scalar.Scalar.{Scalar as Value}
use Rattle.term.specs.Scan.{Got, got, fault, Scalar, scalar}

-- a value and the place after it, or the place of the byte that no rule allows; f says what the value stands for
abbrev pub got_of : {A B : Type 0} → (A → B) → Result (A × ℕ) Fault → Got B
got_of f (Ok r) = got (f r.0) r.1
got_of f (Err p) = fault p.0

abbrev pub number_of : Result (ℕ × ℕ) Fault → Got ℕ
number_of = got_of (λ n. n)

abbrev pub scalar_of : Result (Value × ℕ) Fault → Got Scalar
scalar_of = got_of (λ s. scalar (kind_of s) (payload_of s))
