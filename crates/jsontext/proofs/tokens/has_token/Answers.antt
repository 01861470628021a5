-- The words of the text are those of the token, so the string is its bytes. Assumes nothing.
use borrow.Author.Tests.{eqb-true}
use native.Mathlib.Omega.{arith}
use Rattle.jsontext.proofs.Places.{both}
use Rattle.jsontext.proofs.Quoting.{short_string, long_string}
use Rattle.jsontext.proofs.tokens.has_token.Goals as goal

pub returns-then-n-lt-WORD : goal.returns-then-n-lt-WORD
returns-then-n-lt-WORD c e key v = short_string _ (λ i l. omega (arith, c.shared_slice_known-1.given i)) _ _ _ _ (omega (arith, c.if-at-text.false, c.if-text-lt-LONGEST.false)) key v _ c.word.ensures c.if-n-lt-WORD.true (eqb-true _ _ e)

pub returns : goal.returns
returns c e key v =
    let (f, g) = both _ _ e in
    long_string _ (λ i l. omega (arith, c.shared_slice_known-1.given i)) _ _ _ _ (omega (arith, c.if-at-text.false, c.if-text-lt-LONGEST.false)) key v _ c.word-2.ensures _ c.if-n-lt-WORD.false (eqb-true _ _ f) c.word-3.ensures (eqb-true _ _ g)
