-- So far each byte is one of these, inside the text; the others come to the whole. Assumes nothing.
use mathlib.Core.Path.{◌≡◌, ap, ap₂, ◌∙◌}
use Prim.Native.Nat.{ℕ, ◌+◌, ◌-◌}
use native.Mathlib.Omega.{arith}
use lib.ListN.{replicate}
use Rattle.jsontext.specs.Utf8.{up_to, tail, pass_at}
use Rattle.jsontext.proofs.LeadRows.{tail_inside, tails_none, tails_stop, tails_more}
use Rattle.jsontext.proofs.utf8.tails.Goals as goal

pub returns-then-not-within : goal.returns-then-not-within
returns-then-not-within c = tails_stop _ _ _ (omega arith) (cc c.if-not-within.true) ∙ c.loop-k.invariant.1

pub loop-k-preserved : goal.loop-k-preserved
loop-k-preserved c =
    let inside = tail_inside c.args.text.now (c.args.at + c.loop-k.k) (cc c.if-not-within.false) in
    let left : c.args.count - (c.loop-k.k + 1) ≡ c.args.count - c.loop-k.k - 1 = omega arith in
    let there : c.args.at + (c.loop-k.k + 1) ≡ c.args.at + c.loop-k.k + 1 = omega arith in
    (λ h. omega arith, ap₂ (λ (n i : ℕ). pass_at (replicate n tail) c.args.text.now i) left there ∙ tails_more _ _ _ (omega arith) (cc c.if-not-within.false) ∙ c.loop-k.invariant.1)

pub returns : goal.returns
returns c =
    let end : c.args.count ≡ c.loop-k.k = omega arith in
    ap (λ (k : ℕ). up_to (c.args.at + k)) end ∙ tails_none _ _ (c.args.count - c.loop-k.k) (omega arith) ∙ c.loop-k.invariant.1
