-- `runs::tests::CountedRun::tried` meets its contract: each test is the definition's, in its order. Assumes nothing.
use mathlib.Core.Bool.{true}
use mathlib.Core.Path.{◌≡◌, sym, ◌∙◌}
use Rattle.automaton.proofs.Verdict.{verdicts}
use Rattle.runs.specs.Check.{counted?, run_check_of}
use Rattle.runs.proofs.Verdict.{fitting}
use Rattle.runs.proofs.tests.CountedRun.tried.Goals as goal

pub one_row-requires : goal.one_row-requires
one_row-requires c =
    fitting c.args.self.now.set.now c.args.self.now.rows.now c.args.self.now.run.now c.args.self.now.n c.args.self.now.sound c.args.self.now.counted c.args.self.now.steps
    (sym c.all_known.ensures ∙ c.if-not-all_known.false) (sym c.all_fit.ensures ∙ c.if-not-all_fit.false)

pub returns-then-not-all_known : goal.returns-then-not-all_known
unfolding run_check_of
returns-then-not-all_known c =
    let told : true ≡ counted? c.args.self.now.run.now = sym c.args.self.now.counted in
    search verdicts depth 9

pub returns-then-not-all_fit : goal.returns-then-not-all_fit
unfolding run_check_of
returns-then-not-all_fit c =
    let told : true ≡ counted? c.args.self.now.run.now = sym c.args.self.now.counted in
    search verdicts depth 9

pub returns-then-not-one_row : goal.returns-then-not-one_row
unfolding run_check_of
returns-then-not-one_row c =
    let told : true ≡ counted? c.args.self.now.run.now = sym c.args.self.now.counted in
    search verdicts depth 9

pub returns-then-not-ends : goal.returns-then-not-ends
unfolding run_check_of
returns-then-not-ends c =
    let told : true ≡ counted? c.args.self.now.run.now = sym c.args.self.now.counted in
    search verdicts depth 9

pub returns-then-not-all_used : goal.returns-then-not-all_used
unfolding run_check_of
returns-then-not-all_used c =
    let told : true ≡ counted? c.args.self.now.run.now = sym c.args.self.now.counted in
    search verdicts depth 9

pub returns : goal.returns
unfolding run_check_of
returns c =
    let told : true ≡ counted? c.args.self.now.run.now = sym c.args.self.now.counted in
    search verdicts depth 9
