-- The fault that a `?` hands on. Assumes nothing.
use mathlib.Core.Path.{◌≡◌, ap, ◌∙◌}
use Rattle.std.specs.Prelude.{Result, Err}
use Rattle.std.specs.Result.{IsErrAnd}
use Rattle.std.proofs.lemmas.Result.{err_from_is_err_and}
use Rattle.base.specs.declared.text.Fault.{Fault}

pub handed : {A : Type 0} {f : Fault} (r : Result A Fault) → IsErrAnd r (λ e. e ≡ f) → r ≡ Err f
handed r h = let p = err_from_is_err_and r h in p.1 ∙ ap Err p.2
