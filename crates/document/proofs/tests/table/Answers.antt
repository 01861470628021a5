-- `document::tests::table` meets its contract: each test is the definition's, in its order. Assumes nothing.
use mathlib.Core.Path.{◌≡◌, sym, ap, ◌∙◌}
use Rattle.automaton.specs.Stored.{decode}
use Rattle.document.specs.Check.{form_check_of, table_check_of}
use Rattle.document.proofs.Verdicts.{tables}
use Rattle.document.proofs.tests.table.Goals as goal

pub returns-in_err-whole : goal.returns-in_err-whole
unfolding table_check_of
returns-in_err-whole c = search tables

pub distinct-requires : goal.distinct-requires
distinct-requires c =
    let told : 0 ≡ form_check_of (decode c.args.set.now) c.in_ok-whole.whole.rows.now = c.in_ok-whole.ensures.told ∙ ap (form_check_of (decode c.args.set.now)) (sym c.in_ok-whole.ensures.same) in
    (search tables)

pub returns-in_err-distinct : goal.returns-in_err-distinct
unfolding table_check_of
returns-in_err-distinct c =
    let told : 0 ≡ form_check_of (decode c.args.set.now) c.in_ok-whole.whole.rows.now = c.in_ok-whole.ensures.told ∙ ap (form_check_of (decode c.args.set.now)) (sym c.in_ok-whole.ensures.same) in
    rw (← c.in_ok-whole.ensures.same) (search tables)

pub returns-in_err-used : goal.returns-in_err-used
unfolding table_check_of
returns-in_err-used c =
    let told : 0 ≡ form_check_of (decode c.args.set.now) c.in_ok-whole.whole.rows.now = c.in_ok-whole.ensures.told ∙ ap (form_check_of (decode c.args.set.now)) (sym c.in_ok-whole.ensures.same) in
    rw (← c.in_ok-whole.ensures.same) (search tables)

pub low-requires : goal.low-requires
low-requires c =
    let told : 0 ≡ form_check_of (decode c.args.set.now) c.in_ok-whole.whole.rows.now = c.in_ok-whole.ensures.told ∙ ap (form_check_of (decode c.args.set.now)) (sym c.in_ok-whole.ensures.same) in
    (search tables)

pub returns : goal.returns
unfolding table_check_of
returns c =
    let told : 0 ≡ form_check_of (decode c.args.set.now) c.in_ok-whole.whole.rows.now = c.in_ok-whole.ensures.told ∙ ap (form_check_of (decode c.args.set.now)) (sym c.in_ok-whole.ensures.same) in
    rw (← c.in_ok-whole.ensures.same) (search tables)
