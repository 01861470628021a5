-- The number of each refusal, and what an entry point says that answers with a value or a refusal. Assumes nothing.
use Rattle.std.specs.Prelude.{ℕ, Result, Ok, Err}
use Rattle.model.specs.Refusal.{Answer, gives, refuses}
use Rattle.base.specs.declared.refusal.Refusal.{Refusal}
use Rattle.base.specs.declared.refusal.Refusal.TheVariants.{SetTooShort, SetCounts, SetLengths, SetChildren, SetState, SetRule, SetOrder, SetTags, SetForgets, RuleForgets, TableLength, RowSymbol, RowChildren, RowScalar, RowsEqual, RowUnused, TableHeight, SetForm, RunLength, StepUnknown, StepMisfit, RunTag, RunEnd, StepUnused, NoRoom, RunSpace, TagShared, RowSpace, SetsDiffer, ResultLimits, ResultSpace, ListLine, NamesAlike, TextFault, TextLevel, NameUnknown, TermChildren, TextRows, TextSpace, InputLength, JsonFault, KeyRepeated, NumberForm, KeyList}

abbrev pub number : Refusal → ℕ
number SetTooShort = 1
number SetCounts = 2
number SetLengths = 3
number SetChildren = 4
number SetState = 5
number SetRule = 6
number SetOrder = 7
number SetTags = 8
number SetForgets = 9
number RuleForgets = 10
number TableLength = 11
number RowSymbol = 12
number RowChildren = 13
number RowScalar = 14
number RowsEqual = 15
number RowUnused = 16
number TableHeight = 17
number SetForm = 18
number RunLength = 21
number StepUnknown = 22
number StepMisfit = 23
number RunTag = 24
number RunEnd = 25
number StepUnused = 26
number NoRoom = 31
number RunSpace = 32
number TagShared = 41
number RowSpace = 42
number SetsDiffer = 51
number ResultLimits = 52
number ResultSpace = 53
number ListLine = 61
number NamesAlike = 62
number TextFault = 63
number TextLevel = 64
number NameUnknown = 65
number TermChildren = 66
number TextRows = 67
number TextSpace = 68
number InputLength = 69
number JsonFault = 71
number KeyRepeated = 72
number NumberForm = 73
number KeyList = 74

-- 0 where nothing is refused, else the number of the refusal
abbrev pub refused_by : {A : Type 0} → Result A Refusal → ℕ
refused_by (Ok a) = 0
refused_by (Err r) = number r

-- what is answered: what f makes of the value, or the refusal's number
abbrev pub answer : {A B : Type 0} → (A → B) → Result A Refusal → Answer B
answer f (Ok a) = gives (f a)
answer f (Err r) = refuses (number r)
