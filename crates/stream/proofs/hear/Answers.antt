use Rattle.std.proofs.Common.{rules, arith, length-take-le}
use Rattle.stream.proofs.Bytes.{heard}
use Rattle.stream.proofs.hear.Goals as goal

pub returns-clause-bytes : goal.returns-clause-bytes
returns-clause-bytes g c =
    heard _ _ c.args.done c.read-got.result c.after.result _ c.read-got.new.buf _ (length-take-le _ c.args.space.now (omega (arith, c.requires))) (search rules)
    c.read-got.ensures.bound c.read-got.ensures.bytes c.after.ensures
