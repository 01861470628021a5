-- Too many bytes or one that does not stand for itself, and there is none; else the words of what was put between quotes. Assumes nothing.
use mathlib.Core.Path.{refl}
use Prim.Native.Nat.{◌+◌}
use native.Mathlib.Omega.{arith}
use lib.ListN.{length}
use Rattle.jsontext.proofs.Quoting.{short_token, long_token}
use Rattle.jsontext.proofs.tokens.token_of.Goals as goal

pub returns-then-length-lt-WORD : goal.returns-then-length-lt-WORD
returns-then-length-lt-WORD c =
    let t = c.if-not-put_quoted.false in
    record { token_of = short_token c.args.bytes.now _ (length c.args.bytes.now + 2) refl (omega (arith, c.if-bytes.false)) (c.put_quoted.ensures.plain t) (c.put_quoted.ensures.put t) c.few_bytes.result c.if-length-lt-WORD.true c.few_bytes.ensures; some = λ v l. refl }

pub returns : goal.returns
returns c =
    let t = c.if-not-put_quoted.false in
    record { token_of = long_token c.args.bytes.now _ (length c.args.bytes.now + 2) refl (omega (arith, c.if-bytes.false)) (c.put_quoted.ensures.plain t) (c.put_quoted.ensures.put t) c.word.result c.word-2.result c.if-length-lt-WORD.false c.word.ensures c.word-2.ensures; some = λ v l. refl }
