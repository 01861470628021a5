-- What an answer with a number and a witness says: it has that number, and a sample of the witness's shape; and that it says so only there. Assumes nothing.
use mathlib.Core.Path.{◌≡◌}
use mathlib.Core.Option.{Option}
use Prim.Native.Nat.{ℕ, zero, suc}
use native.Mathlib.Omega.{arith}
use Rattle.std.specs.Prelude.{Result, Ok}
use Rattle.std.specs.Prelude.{Option as Perhaps}
use Rattle.model.specs.Refusal.{unless}
use Rattle.model.specs.Tree.{Tree}
use Rattle.base.specs.Refusals.{refused_by}
use Rattle.base.specs.declared.refusal.Refusal.{Refusal}
use Rattle.base.proofs.Refusing.{answered, refused_is}
use Rattle.emptiness.specs.declared.Sample.{Sample}
use Rattle.emptiness.specs.Answer.{sampled, emptiness_answer, shape_of}

-- the answer has the number n, and where it is a value that value is the witness's shape
abbrev pub Says : ℕ → Option Tree → Result (Perhaps Sample) Refusal → Type 0
Says n o r = (refused_by r ≡ n) × ((v : Perhaps Sample) → r ≡ Ok v → sampled v ≡ shape_of o)

value_is : (n : ℕ) (o : Option Tree) (v : Perhaps Sample) → emptiness_answer (Ok v) ≡ unless n (shape_of o) → sampled v ≡ shape_of o
unfolding unless
value_is zero o v e = cc
value_is (suc n) o v e = let z : ◌≡◌ {A = ℕ} 0 1 = cc in absurd (omega arith)

pub answer_is : (r : Result (Perhaps Sample) Refusal) (n : ℕ) (o : Option Tree) → emptiness_answer r ≡ unless n (shape_of o) → Says n o r
answer_is r n o e = (refused_is sampled (shape_of o) r n e, λ v h. value_is n o v (rw h at e))

pub is_answer : (r : Result (Perhaps Sample) Refusal) (n : ℕ) (o : Option Tree) → Says n o r → emptiness_answer r ≡ unless n (shape_of o)
is_answer r n o s = answered sampled (shape_of o) r n s.1 s.0
