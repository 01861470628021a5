-- The number of an answer is that of what the answer says. Assumes nothing.
use mathlib.Core.Path.{◌≡◌, refl}
use Prim.Native.Nat.{ℕ}
use Rattle.std.specs.Prelude.{Result, Ok, Err, Option, Some, None, unwrap_or}
use Rattle.base.specs.declared.refusal.Refusal.{Refusal}
use Rattle.base.specs.declared.refusal.TextRefusal.{TextRefusal}
use Rattle.base.specs.Refusals.{answer}
use Rattle.emptiness.specs.declared.Sample.{Sample}
use Rattle.emptiness.specs.Answer.{emptiness_answer}
use Rattle.term.specs.Read.{read_answer}
use Rattle.jsonrows.specs.Answer.{read_answer as json_answer}
use Rattle.cidhomba.specs.Code.{code_of, witness_code, judged_code, text_code, read_code, json_code}
use Rattle.cidhomba.specs.Value.{sample_value}

pub witness_coded : (r : Result (Option Sample) Refusal) → code_of sample_value (answer (λ v. v) r) ≡ witness_code (emptiness_answer r)
witness_coded (Ok None) = refl
witness_coded (Ok (Some s)) = refl
witness_coded (Err w) = refl

pub judged_coded : (r : Result (Option ℕ) Refusal) → code_of (λ o. unwrap_or o 0) (answer (λ v. v) r) ≡ judged_code r
judged_coded (Ok None) = refl
judged_coded (Ok (Some s)) = refl
judged_coded (Err w) = refl

pub term_coded : (r : Result ℕ TextRefusal) → text_code r ≡ read_code (read_answer r)
term_coded (Ok n) = refl
term_coded (Err t) = refl

pub json_coded : (r : Result ℕ TextRefusal) → text_code r ≡ json_code (json_answer r)
json_coded (Ok n) = refl
json_coded (Err t) = refl
