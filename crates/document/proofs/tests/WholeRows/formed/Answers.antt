-- `document::tests::WholeRows::formed` meets its contract: each test is the definition's, in its order. Assumes nothing.
use mathlib.Core.Bool.{true}
use mathlib.Core.Path.{◌≡◌, sym, ap, ◌∙◌}
use Rattle.std.specs.Prelude.{is_some}
use Rattle.automaton.proofs.Verdict.{stop, verdicts}
use Rattle.document.specs.Check.{counted?, form_check_of}
use Rattle.document.proofs.tests.WholeRows.formed.Goals as goal

pub returns-in_default-clause-told : goal.returns-in_default-clause-told
unfolding form_check_of
returns-in_default-clause-told c = stop _ _ 11 _ c.counted.ensures.told (ap is_some c.in_default.is)

pub returns-then-not-symbols_known-clause-told : goal.returns-then-not-symbols_known-clause-told
unfolding form_check_of
returns-then-not-symbols_known-clause-told c =
    let told : true ≡ counted? c.in-Some.whole.rows.now = sym (ap is_some c.in-Some.is) ∙ c.counted.ensures.told ∙ ap counted? (sym c.in-Some.ensures.same) in
    rw (← c.in-Some.ensures.same) (search verdicts depth 9)

pub returns-then-not-all_children_fit-clause-told : goal.returns-then-not-all_children_fit-clause-told
unfolding form_check_of
returns-then-not-all_children_fit-clause-told c =
    let told : true ≡ counted? c.in-Some.whole.rows.now = sym (ap is_some c.in-Some.is) ∙ c.counted.ensures.told ∙ ap counted? (sym c.in-Some.ensures.same) in
    rw (← c.in-Some.ensures.same) (search verdicts depth 9)

pub returns-then-not-all_scalars_fit-clause-told : goal.returns-then-not-all_scalars_fit-clause-told
unfolding form_check_of
returns-then-not-all_scalars_fit-clause-told c =
    let told : true ≡ counted? c.in-Some.whole.rows.now = sym (ap is_some c.in-Some.is) ∙ c.counted.ensures.told ∙ ap counted? (sym c.in-Some.ensures.same) in
    rw (← c.in-Some.ensures.same) (search verdicts depth 9)

pub returns-clause-told : goal.returns-clause-told
unfolding form_check_of
returns-clause-told c =
    let told : true ≡ counted? c.in-Some.whole.rows.now = sym (ap is_some c.in-Some.is) ∙ c.counted.ensures.told ∙ ap counted? (sym c.in-Some.ensures.same) in
    rw (← c.in-Some.ensures.same) (search verdicts depth 9)
