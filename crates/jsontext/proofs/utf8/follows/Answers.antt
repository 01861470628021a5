-- The definition's tests. Assumes nothing.
use mathlib.Core.Path.{sym, ◌∙◌, ◌≡◌}
use mathlib.Core.Bool.{true, false}
use Prim.Native.Nat.{ℕ}
use native.Mathlib.Omega.{arith}
use Rattle.jsontext.specs.Utf8.{between}
use Rattle.jsontext.specs.Lead.{follows}
use Rattle.jsontext.proofs.utf8.follows.Goals as goal

module _ (b : ℕ) where
  one : between 194 223 b ≡ true → 1 ≡ follows b
  unfolding follows
  one e = rw e

  two : between 194 223 b ≡ false → between 224 239 b ≡ true → 2 ≡ follows b
  unfolding follows
  two e f = rw (e, f)

  three : between 194 223 b ≡ false → between 224 239 b ≡ false → between 240 244 b ≡ true → 3 ≡ follows b
  unfolding follows
  three e f g = rw (e, f, g)

  none : between 194 223 b ≡ false → between 224 239 b ≡ false → between 240 244 b ≡ false → 0 ≡ follows b
  unfolding follows
  none e f g = rw (e, f, g)

pub returns-then-within : goal.returns-then-within
returns-then-within c = (one _ (sym c.within.ensures ∙ c.if-within.true), omega arith)

pub returns-then-within-2 : goal.returns-then-within-2
returns-then-within-2 c = (two _ (sym c.within.ensures ∙ c.if-within.false) (sym c.within-2.ensures ∙ c.if-within-2.true), omega arith)

pub returns-then-within-3 : goal.returns-then-within-3
returns-then-within-3 c = (three _ (sym c.within.ensures ∙ c.if-within.false) (sym c.within-2.ensures ∙ c.if-within-2.false) (sym c.within-3.ensures ∙ c.if-within-3.true), omega arith)

pub returns : goal.returns
returns c = (none _ (sym c.within.ensures ∙ c.if-within.false) (sym c.within-2.ensures ∙ c.if-within-2.false) (sym c.within-3.ensures ∙ c.if-within-3.false), omega arith)
