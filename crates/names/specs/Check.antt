-- What is asked of two name lists, by number (document 01, section "Turned away, by place", names). Assumes nothing.
use Rattle.std.specs.Prelude.{List, Bool, ◌&&◌, ◌||◌, not, ℕ, min, eqb, leb, length, Result, Some, None, Option as Maybe}
use Rattle.std.proofs.Math.Option.{Option, none, some}
use Rattle.base.specs.Refusals.{answer}
use Rattle.base.specs.declared.refusal.Refusal.{Refusal}
use Rattle.model.specs.Limits.{max_symbols}
use Rattle.model.specs.Lists.{all_below, eq_list}
use Rattle.model.specs.Refusal.{demand, Answer}
use Rattle.names.specs.Lines.{line_at, line_count}
use Rattle.names.specs.Names.{name?, shown_name}

-- a line is empty or a name
unfoldable pub line_fits? : List ℕ → Bool
line_fits? l = eqb (length l) 0 || name? l

-- 61: at most 64 lines, each empty or a name
unfoldable pub list_fits? : List ℕ → Bool
list_fits? s = leb (line_count s) max_symbols && all_below (line_count s) (λ i. line_fits? (line_at s i))

-- no symbol before i has i's name
unfoldable pub new? : (ℕ → List ℕ) → ℕ → Bool
new? names i = all_below i (λ j. not (eq_list (names j) (names i)))

-- 62: no two of n symbols have one name
unfoldable pub distinct? : ℕ → (ℕ → List ℕ) → Bool
distinct? n names = all_below n (new? names)

-- 62, of a set's symbols, of which there are at most 64
abbrev pub shown_apart? : ℕ → List ℕ → List ℕ → Bool
shown_apart? symbols site built_in = distinct? (min symbols max_symbols) (shown_name site built_in)

-- the first number that refuses the lists, else 0
unfoldable pub names_check_of : ℕ → List ℕ → List ℕ → ℕ
names_check_of symbols site built_in =
    demand (list_fits? site && list_fits? built_in) 61 (demand (shown_apart? symbols site built_in) 62 0)

-- the check's answer: nothing is refused, or a refusal by its number
abbrev pub names_answer : Result (Unit {0}) Refusal → Answer (Unit {0})
names_answer = answer (λ u. u)

-- the symbol that was found, if one was
abbrev pub found_of : Maybe ℕ → Option ℕ
found_of (Some i) = some i
found_of None = none
