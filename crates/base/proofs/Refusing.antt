-- What an answer with a refusal is, and what a caller learns of it. Assumes nothing.
use mathlib.Core.Path.{◌≡◌, refl, ap}
use Prim.Native.Nat.{ℕ, zero, suc, ◌<◌}
use native.Mathlib.Omega.{arith}
use Rattle.std.specs.Prelude.{Result, Ok, Err}
use Rattle.model.specs.Refusal.{gives, refuses, unless}
use Rattle.base.specs.declared.refusal.Refusal.{Refusal}
use Rattle.base.specs.declared.refusal.Refusal.TheVariants.{SetTooShort, SetCounts, SetLengths, SetChildren, SetState, SetRule, SetOrder, SetTags, SetForgets, RuleForgets, TableLength, RowSymbol, RowChildren, RowScalar, RowsEqual, RowUnused, TableHeight, SetForm, RunLength, StepUnknown, StepMisfit, RunTag, RunEnd, StepUnused, NoRoom, RunSpace, TagShared, RowSpace, SetsDiffer, ResultLimits, ResultSpace, ListLine, NamesAlike, TextFault, TextLevel, NameUnknown, TermChildren, TextRows, TextSpace, InputLength, JsonFault, KeyRepeated, NumberForm, KeyList}
use Rattle.base.specs.Refusals.{number, refused_by, answer}

-- no refusal has the number that stands for none
pub some_number : (r : Refusal) → (n : ℕ) × (number r ≡ suc n)
some_number SetTooShort = (0, refl)
some_number SetCounts = (1, refl)
some_number SetLengths = (2, refl)
some_number SetChildren = (3, refl)
some_number SetState = (4, refl)
some_number SetRule = (5, refl)
some_number SetOrder = (6, refl)
some_number SetTags = (7, refl)
some_number SetForgets = (8, refl)
some_number RuleForgets = (9, refl)
some_number TableLength = (10, refl)
some_number RowSymbol = (11, refl)
some_number RowChildren = (12, refl)
some_number RowScalar = (13, refl)
some_number RowsEqual = (14, refl)
some_number RowUnused = (15, refl)
some_number TableHeight = (16, refl)
some_number SetForm = (17, refl)
some_number RunLength = (20, refl)
some_number StepUnknown = (21, refl)
some_number StepMisfit = (22, refl)
some_number RunTag = (23, refl)
some_number RunEnd = (24, refl)
some_number StepUnused = (25, refl)
some_number NoRoom = (30, refl)
some_number RunSpace = (31, refl)
some_number TagShared = (40, refl)
some_number RowSpace = (41, refl)
some_number SetsDiffer = (50, refl)
some_number ResultLimits = (51, refl)
some_number ResultSpace = (52, refl)
some_number ListLine = (60, refl)
some_number NamesAlike = (61, refl)
some_number TextFault = (62, refl)
some_number TextLevel = (63, refl)
some_number NameUnknown = (64, refl)
some_number TermChildren = (65, refl)
some_number TextRows = (66, refl)
some_number TextSpace = (67, refl)
some_number InputLength = (68, refl)
some_number JsonFault = (70, refl)
some_number KeyRepeated = (71, refl)
some_number NumberForm = (72, refl)
some_number KeyList = (73, refl)

-- the answer with the number n
pub answered : {A B : Type 0} (f : A → B) (b : B) (r : Result A Refusal) (n : ℕ) → ((a : A) → r ≡ Ok a → f a ≡ b) → refused_by r ≡ n → answer f r ≡ unless n b
unfolding unless
answered f b (Ok a) zero h e = ap gives (h a refl)
answered f b (Ok a) (suc n) h e = absurd (omega arith)
answered f b (Err w) zero h e = let s = some_number w in absurd (omega (arith, s.1))
answered f b (Err w) (suc n) h e = ap refuses e

-- the number that an answer has
pub refused_is : {A B : Type 0} (f : A → B) (b : B) (r : Result A Refusal) (n : ℕ) → answer f r ≡ unless n b → refused_by r ≡ n
unfolding unless
refused_is f b (Ok a) zero e = refl
refused_is f b (Ok a) (suc n) e = cc
refused_is f b (Err w) zero e = cc
refused_is f b (Err w) (suc n) e = cc

-- every number fits a byte
pub number_few : (r : Refusal) → number r < 256
number_few SetTooShort = omega arith
number_few SetCounts = omega arith
number_few SetLengths = omega arith
number_few SetChildren = omega arith
number_few SetState = omega arith
number_few SetRule = omega arith
number_few SetOrder = omega arith
number_few SetTags = omega arith
number_few SetForgets = omega arith
number_few RuleForgets = omega arith
number_few TableLength = omega arith
number_few RowSymbol = omega arith
number_few RowChildren = omega arith
number_few RowScalar = omega arith
number_few RowsEqual = omega arith
number_few RowUnused = omega arith
number_few TableHeight = omega arith
number_few SetForm = omega arith
number_few RunLength = omega arith
number_few StepUnknown = omega arith
number_few StepMisfit = omega arith
number_few RunTag = omega arith
number_few RunEnd = omega arith
number_few StepUnused = omega arith
number_few NoRoom = omega arith
number_few RunSpace = omega arith
number_few TagShared = omega arith
number_few RowSpace = omega arith
number_few SetsDiffer = omega arith
number_few ResultLimits = omega arith
number_few ResultSpace = omega arith
number_few ListLine = omega arith
number_few NamesAlike = omega arith
number_few TextFault = omega arith
number_few TextLevel = omega arith
number_few NameUnknown = omega arith
number_few TermChildren = omega arith
number_few TextRows = omega arith
number_few TextSpace = omega arith
number_few InputLength = omega arith
number_few JsonFault = omega arith
number_few KeyRepeated = omega arith
number_few NumberForm = omega arith
number_few KeyList = omega arith
