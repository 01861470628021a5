-- `judging::judge` meets its contract: the set and the table are tried first, then the judging. Assumes nothing.
use mathlib.Core.Path.{◌≡◌}
use Rattle.std.proofs.lemmas.Result.{err_from_is_err_and}
use Rattle.membership.proofs.Meaning.{refused_first, judges}
use Rattle.judging.proofs.judge.Goals as goal

pub returns-in_err-check : goal.returns-in_err-check
returns-in_err-check c =
    let (w, was, same) = err_from_is_err_and {Q = λ w. w ≡ c.in_err-check.field-0.0} c.from_residual.result c.from_residual.ensures.1 in
    rw (was, same) (refused_first c.args.set.now c.args.rows.now c.args.work.now c.args.run.now c.check.result c.in_err-check.field-0.0 c.check.ensures c.in_err-check.was)

pub decide-requires : goal.decide-requires
decide-requires c = search judges
