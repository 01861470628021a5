-- `automaton::check` meets its contract: each test is the definition's, in its order. Assumes nothing.
use mathlib.Core.Path.{refl}
use Rattle.automaton.specs.Check.{check_of}
use Rattle.base.specs.declared.refusal.Refusal.TheVariants.{SetTooShort, SetCounts, SetLengths, SetChildren, SetState, SetRule, SetOrder, SetForgets}
use Rattle.automaton.proofs.Verdict.{verdicts, refused, passed, tags_few}
use Rattle.automaton.proofs.check.Goals as goal

pub returns-then-set-lt-HEADER_WIDTH : goal.returns-then-set-lt-HEADER_WIDTH
unfolding check_of
returns-then-set-lt-HEADER_WIDTH c = refused SetTooShort 1 _ refl (search verdicts depth 9)

pub returns-then-not-counts : goal.returns-then-not-counts
unfolding check_of
returns-then-not-counts c = refused SetCounts 2 _ refl (search verdicts depth 9)

pub returns-then-not-offsets : goal.returns-then-not-offsets
unfolding check_of
returns-then-not-offsets c = refused SetLengths 3 _ refl (search verdicts depth 9)

pub returns-then-not-symbols : goal.returns-then-not-symbols
unfolding check_of
returns-then-not-symbols c = refused SetChildren 4 _ refl (search verdicts depth 9)

pub states-requires : goal.states-requires
unfolding check_of
states-requires c = tags_few _ _ c.counts.ensures c.if-not-counts.false

pub returns-then-not-states : goal.returns-then-not-states
unfolding check_of
returns-then-not-states c = refused SetState 5 _ refl (search verdicts depth 9)

pub returns-then-not-rules : goal.returns-then-not-rules
unfolding check_of
returns-then-not-rules c = refused SetRule 6 _ refl (search verdicts depth 9)

pub returns-then-not-ascending : goal.returns-then-not-ascending
unfolding check_of
returns-then-not-ascending c = refused SetOrder 7 _ refl (search verdicts depth 9)

pub forgetting-requires : goal.forgetting-requires
unfolding check_of
forgetting-requires c = tags_few _ _ c.counts.ensures c.if-not-counts.false

pub returns-then-not-forgetting : goal.returns-then-not-forgetting
unfolding check_of
returns-then-not-forgetting c = refused SetForgets 9 _ refl (search verdicts depth 10)

pub returns : goal.returns
unfolding check_of
returns c = passed _ (search verdicts depth 10)
