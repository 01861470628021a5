-- What was heard tells what `read` answered: the input counts as ended at `Ok(0)` alone, as failed at an `Err` alone, and else by as many bytes as came. Assumes nothing.
use Rattle.std.proofs.Common.{◌≡◌, ℕ, zero, suc, ◌+◌, Result, Ok, Err, None, Some, refl}
use Rattle.stream.specs.Reading.{after_read}

-- a failed read is never the end
pub ended_only : {E : Type 0} (done : ℕ) (r : Result ℕ E) → after_read done r ≡ Ok None → r ≡ Ok 0
ended_only done (Ok zero) e = refl
ended_only done (Ok (suc k)) e = cc
ended_only done (Err x) e = cc

pub failed_only : {E : Type 0} (done : ℕ) (r : Result ℕ E) (x : E) → after_read done r ≡ Err x → r ≡ Err x
failed_only done (Ok zero) x e = cc
failed_only done (Ok (suc k)) x e = cc
failed_only done (Err y) x e = cc

pub more_only : {E : Type 0} (done : ℕ) (r : Result ℕ E) (n : ℕ) → after_read done r ≡ Ok (Some n) → (k : ℕ) × (r ≡ Ok (suc k)) × (n ≡ done + suc k)
more_only done (Ok zero) n e = cc
more_only done (Ok (suc k)) n e = (k, refl, cc)
more_only done (Err x) n e = cc
