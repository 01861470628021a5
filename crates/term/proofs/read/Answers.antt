-- The set, the names, the text: the first place that refuses decides. Assumes nothing.
use mathlib.Core.Path.{◌≡◌}
use borrow.Author.Rules.{rules}
use Rattle.std.specs.Prelude.{Result, Err}
use Rattle.base.specs.declared.refusal.TextRefusal.{TextRefusal}
use native.Mathlib.Omega.{arith}
use lib.ListN.{length-replicate}
use Prim.Native.Nat.{ℕ}
use Rattle.automaton.proofs.Verdict.{passed_zero}
use Rattle.names.proofs.Checked.{distinct_zero, refused_number}
use Rattle.term.proofs.Whole.{set_number, set_refused, names_refused, text_answers}
use Rattle.term.proofs.read.Goals as goal

pub read_text-requires : goal.read_text-requires
read_text-requires c = record { sound = passed_zero _ _ c.check.ensures c.in_ok-check.was; counted = c.header-symbols.ensures.symbols }

pub returns-in_err-check : goal.returns-in_err-check
returns-in_err-check c =
    let is : ◌≡◌ {A = Result ℕ TextRefusal} c.from_residual.result (Err (record { refusal = c.in_err-check.field-0.0; place = 0 })) = search rules in
    let r = set_refused _ _ _ _ _ _ (set_number _ _ c.check.ensures _ c.in_err-check.was) c.from_residual.result is in
    record { answer = r.0; space = r.1 }

pub returns-in_err-check-2 : goal.returns-in_err-check-2
returns-in_err-check-2 c =
    let is : ◌≡◌ {A = Result ℕ TextRefusal} c.from_residual-in_err-check-2.result (Err (record { refusal = c.in_err-check-2.field-0.0; place = 0 })) = search rules in
    let r = names_refused _ _ _ _ _ (passed_zero _ _ c.check.ensures c.in_ok-check.was) _ c.header-symbols.ensures.symbols _ (refused_number _ _ c.check-2.ensures _ c.in_err-check-2.was) c.from_residual-in_err-check-2.result is in
    record { answer = r.0; space = r.1 }

pub returns : goal.returns
returns c =
    let r = text_answers _ _ _ _ _ (passed_zero _ _ c.check.ensures c.in_ok-check.was) _ c.header-symbols.ensures.symbols
    (distinct_zero _ _ c.check-2.ensures c.in_ok-check-2.was) _ _ c.fill.ensures (omega (arith, length-replicate {A = ℕ} 1088 0)) _ _ c.read_text.ensures in record { answer = r.0; space = r.1 }
