-- The bytes stand between the two quotes. Assumes nothing.
use native.Mathlib.Omega.{arith}
use Rattle.jsontext.proofs.Quoting.{quoted_put}
use Rattle.jsontext.proofs.tokens.put_quoted.Goals as goal

pub returns-clause-put : goal.returns-clause-put
returns-clause-put c _ = quoted_put c.args.bytes.now c.args.out.now _ _ c.copy_from_slice.ensures.after (omega arith) c.requires
