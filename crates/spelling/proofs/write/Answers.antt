-- `spelling::write` meets its contract: the set, the names and the table are tried in this order, then the text is written. Assumes nothing.
use mathlib.Core.Path.{◌≡◌}
use Prim.Native.Nat.{ℕ}
use borrow.Author.Rules.{rules}
use Rattle.std.specs.Prelude.{Result, Err}
use Rattle.base.specs.declared.refusal.Refusal.{Refusal}
use Rattle.spelling.proofs.Writing.{refused_answers, set_refused, names_refused, table_refused, sound, text_answers}
use Rattle.spelling.proofs.write.Goals as goal

pub write_text-requires : goal.write_text-requires
write_text-requires c = sound _ _ _ _ 0 _ c.check.ensures c.in_ok-check.was _ c.header.ensures.symbols _ c.check-2.ensures c.in_ok-check-2.was _ c.check-3.ensures c.in_ok-check-3.was

pub returns-in_err-check : goal.returns-in_err-check
returns-in_err-check c =
    let is : ◌≡◌ {A = Result ℕ Refusal} c.from_residual.result (Err c.in_err-check.field-0.0) = search rules in
    let r = refused_answers _ _ c.from_residual.result _ is (set_refused _ _ _ _ _ _ c.check.ensures _ c.in_err-check.was) in
    record { answer = r.0; space = r.1 }

pub returns-in_err-check-2 : goal.returns-in_err-check-2
returns-in_err-check-2 c =
    let is : ◌≡◌ {A = Result ℕ Refusal} c.from_residual-in_err-check-2.result (Err c.in_err-check-2.field-0.0) = search rules in
    let r = refused_answers _ _ c.from_residual-in_err-check-2.result _ is (names_refused _ _ _ _ _ _ c.check.ensures c.in_ok-check.was _ c.header.ensures.symbols _ c.check-2.ensures _ c.in_err-check-2.was) in
    record { answer = r.0; space = r.1 }

pub returns-in_err-check-3 : goal.returns-in_err-check-3
returns-in_err-check-3 c =
    let is : ◌≡◌ {A = Result ℕ Refusal} c.from_residual-in_err-check-3.result (Err c.in_err-check-3.field-0.0) = search rules in
    let r = refused_answers _ _ c.from_residual-in_err-check-3.result _ is
    (table_refused _ _ _ _ _ _ c.check.ensures c.in_ok-check.was _ c.header.ensures.symbols _ c.check-2.ensures c.in_ok-check-2.was _ c.check-3.ensures _ c.in_err-check-3.was) in
    record { answer = r.0; space = r.1 }

pub returns : goal.returns
returns c =
    let r = text_answers _ _ _ _ _ _ c.check.ensures c.in_ok-check.was _ c.header.ensures.symbols _ c.check-2.ensures c.in_ok-check-2.was _ c.check-3.ensures c.in_ok-check-3.was
    _ _ _ _ _ (search rules) c.fill.ensures c.write_text.ensures in record { answer = r.0; space = r.1 }
