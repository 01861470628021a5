-- Behind fewer than eight, or behind eight and more. Assumes nothing.
use mathlib.Core.Path.{refl, ap, ◌∙◌}
use Prim.Native.Nat.{ℕ, ◌+◌, ◌%◌, ◌^◌}
use Rattle.jsontext.proofs.Keeping.{keep_short, keep_long}
use Rattle.jsontext.proofs.slots.keep.Goals as goal

pub returns-then-few-lt-WORD : goal.returns-then-few-lt-WORD
returns-then-few-lt-WORD c = λ bs xs v u e f g. keep_short bs xs _ v u _ _ _ _ e (c.low-count.ensures ∙ ap (λ (x : ℕ). (x + c.args.n % 2 ^ 32) % 2 ^ 32) c.from.ensures) f g _ c.if-few-lt-WORD.true c.min.ensures _ refl refl refl refl

pub returns : goal.returns
returns c = λ bs xs v u e f g. keep_long bs xs _ v u _ _ _ _ e (c.low-count.ensures ∙ ap (λ (x : ℕ). (x + c.args.n % 2 ^ 32) % 2 ^ 32) c.from.ensures) f g c.if-few-lt-WORD.false _ refl refl refl refl
