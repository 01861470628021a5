-- Which number refuses a lent run (document 01, section "Turned away, by place", place "run"; document 02, Wish 9, for 24); 0 for none. Assumes nothing.
use Rattle.std.specs.Prelude.{List, Bool, ◌&&◌, ℕ, ◌-◌, ◌%◌, eqb, leb, length}
use Rattle.model.specs.Limits.{max_steps}
use Rattle.model.specs.Lists.{all_below}
use Rattle.model.specs.Refusal.{demand, and_after}
use Rattle.model.specs.Automaton.{Automaton}
use Rattle.model.specs.Table.{Row}
use Rattle.model.specs.WrittenTest.{known?, step_fits?, one_row?, ends?, used?}
use Rattle.automaton.specs.Stored.{decode}
use Rattle.document.specs.Rows.{decode_rows}
use Rattle.document.specs.Check.{document_check_of}
use Rattle.runs.specs.Steps.{step_cells, place_in, decode_steps}

-- 21: at least one step, at most 4,096, and none cut short
unfoldable pub counted? : List ℕ → Bool
counted? cells =
    leb 1 (length (decode_steps cells)) && (leb (length (decode_steps cells)) max_steps && eqb (length cells % step_cells) 0)

-- The number: each test over the whole input before the next. 24 is the clash of document 01 as Wish 9 of document 02 has it: a tag with two rows in the memory that a step leaves, what its rule forgets being dropped.
unfoldable pub run_check_of : Automaton → List Row → List ℕ → ℕ
run_check_of A rows cells =
    demand (counted? cells) 21
    (demand (all_below (length (decode_steps cells)) (known? A rows (decode_steps cells))) 22
    (demand (all_below (length (decode_steps cells)) (step_fits? A rows (decode_steps cells) (place_in cells))) 23
    (demand (one_row? A (decode_steps cells)) 24
    (demand (ends? A rows (decode_steps cells)) 25
    (demand (all_below (length (decode_steps cells) - 1) (used? (decode_steps cells))) 26 0)))))

-- the set and the table are tried before the run
abbrev pub check_run_of : List ℕ → List ℕ → List ℕ → ℕ
check_run_of set cells run = and_after (document_check_of set cells) (run_check_of (decode set) (decode_rows cells) run)
