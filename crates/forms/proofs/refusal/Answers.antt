-- `forms::refusal` meets its contract: each number is the definition's, in its order. Assumes nothing.
use mathlib.Core.Path.{sym, ◌∙◌, subst}
use Prim.Native.Nat.{ℕ, ◌≤◌, ◌<◌}
use native.Mathlib.Omega.{arith}
use Rattle.std.proofs.lemmas.Result.{err_from_is_err_and}
use Rattle.automaton.specs.Form.{tag_bits}
use Rattle.automaton.specs.Stored.{decode}
use Rattle.automaton.proofs.Verdict.{refused_after, passed_zero}
use Rattle.forms.proofs.Moving.{not_in_form, too_many_tags, forgets_tags, too_short, passed_all}
use Rattle.forms.specs.Move.{move_check_of}
use Rattle.forms.proofs.refusal.Goals as goal

pub returns-in_err-check : goal.returns-in_err-check
unfolding move_check_of
returns-in_err-check c = let p = err_from_is_err_and c.from_residual.result c.from_residual.ensures.1 in rw (p.1, p.2) (refused_after _ _ c.check.ensures _ _ c.in_err-check.was)

pub returns-then-set-length_in : goal.returns-then-set-length_in
returns-then-set-length_in c = not_in_form c.args.from c.args.to c.args.set.now c.args.space (passed_zero _ _ c.check.ensures c.in_ok-check.was) (λ e. c.if-set-length_in.true (e ∙ sym c.length_in.ensures))

pub returns-then-tag_bits-header : goal.returns-then-tag_bits-header
returns-then-tag_bits-header c =
    let m : tag_bits c.args.to < (decode c.args.set.now).tags = omega arith in
    too_many_tags c.args.from c.args.to c.args.set.now c.args.space (passed_zero _ _ c.check.ensures c.in_ok-check.was) (c.if-set-length_in.false ∙ c.length_in.ensures) m

pub returns-then-not-keeps_masks : goal.returns-then-not-keeps_masks
returns-then-not-keeps_masks c =
    let m : (decode c.args.set.now).tags ≤ tag_bits c.args.to = omega arith in
    forgets_tags c.args.from c.args.to c.args.set.now c.args.space (passed_zero _ _ c.check.ensures c.in_ok-check.was) (c.if-set-length_in.false ∙ c.length_in.ensures) m
    (sym c.keeps_masks.ensures ∙ c.if-not-keeps_masks.true)

pub returns-then-space-length_in : goal.returns-then-space-length_in
returns-then-space-length_in c =
    let m : (decode c.args.set.now).tags ≤ tag_bits c.args.to = omega arith in
    too_short c.args.from c.args.to c.args.set.now c.args.space (passed_zero _ _ c.check.ensures c.in_ok-check.was) (c.if-set-length_in.false ∙ c.length_in.ensures) m
    (sym c.keeps_masks.ensures ∙ c.if-not-keeps_masks.false) (subst (λ (n : ℕ). c.args.space < n) c.length_in-2.ensures c.if-space-length_in.true)

pub returns : goal.returns
returns c =
    let m : (decode c.args.set.now).tags ≤ tag_bits c.args.to = omega arith in
    passed_all c.args.from c.args.to c.args.set.now c.args.space (passed_zero _ _ c.check.ensures c.in_ok-check.was) (c.if-set-length_in.false ∙ c.length_in.ensures) m
    (sym c.keeps_masks.ensures ∙ c.if-not-keeps_masks.false) (subst (λ (n : ℕ). n ≤ c.args.space) c.length_in-2.ensures c.if-space-length_in.false)
