use mathlib.Core.Path.{ap, ◌∙◌}
use Prim.Native.Nat.{ℕ, ◌*◌}
use native.Mathlib.Omega.{arith}
use Rattle.automaton.specs.Stored.{decode}
use Rattle.automaton.proofs.Laying.{parts_none, parts_put, parts_all, parts_fit, parts_stay, put_laid}
use Rattle.model.specs.Written.{no_rule}
use Rattle.automaton.specs.Form.{rule_width}
use Rattle.automaton.specs.Encode.{encode_rule}
use Rattle.automaton.proofs.Encoded.{rule_width_lem}
use Rattle.automaton.proofs.Known.{rule_bytes}
use Rattle.automaton.proofs.copy.put_rules.Goals as goal

pub returns-then-not-fits : goal.returns-then-not-fits
returns-then-not-fits c = parts_stay (encode_rule c.args.form) (rule_width c.args.form) (rule_width_lem c.args.form) (decode c.args.set.now).rules c.args.out.now c.args.at _ _ (c.rules_length.ensures.0 ∙ ap (λ (z : ℕ). rule_width c.args.form * z) c.header-n.ensures.rules) c.fits.ensures c.if-not-fits.true

pub loop-i-init : goal.loop-i-init
loop-i-init c = (c.header-n.ensures.rules, parts_none _ no_rule _ _ _ (parts_fit (encode_rule c.args.form) (rule_width c.args.form) (rule_width_lem c.args.form) (decode c.args.set.now).rules c.args.out.now c.args.at _ _ (c.rules_length.ensures.0 ∙ ap (λ (z : ℕ). rule_width c.args.form * z) c.header-n.ensures.rules) c.fits.ensures c.if-not-fits.false))

pub loop-i-preserved : goal.loop-i-preserved
loop-i-preserved c = (c.loop-i.invariant.0, parts_put _ no_rule _ _ _ _ _ _ c.loop-i.invariant.1 _ _ _ (omega (arith, c.loop-i.invariant.0)) (rule_bytes _ _ _ c.rule.ensures) c.put_rule-end.ensures)

pub returns : goal.returns
returns c = put_laid _ _ _ _ _ (parts_all _ no_rule _ _ _ _ _ _ c.loop-i.invariant.1 (omega (arith, c.loop-i.invariant.0)))
