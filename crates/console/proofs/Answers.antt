-- The line for each answer of the reader, the writer, the judge and the emptiness test is the line for what they are asked. Assumes nothing.
use mathlib.Core.Path.{◌≡◌, refl, sym, ap, subst, ◌∙◌}
use mathlib.Core.List.{List, [], ◌++◌}
use mathlib.Core.Option.{Option, none, some}
use Prim.Native.Nat.{ℕ, zero, suc, ◌*◌, ◌≤◌}
use native.Mathlib.Omega.{arith}
use lib.ListN.{length, take, drop, replicate, length-append, length-replicate}
use lib.Seq.{take_at}
use Rattle.model.specs.Limits.{max_rows, max_states}
use Rattle.model.specs.Refusal.{Answer, gives, refuses, unless, answer_map}
use Rattle.model.specs.Tree.{Tree, levels}
use Rattle.model.specs.Table.{Row}
use Rattle.model.specs.Build.{rows_of}
use Rattle.model.specs.Witness.{witness}
use Rattle.model.specs.Annotation.{accepts?}
use Rattle.automaton.specs.Stored.{decode}
use Rattle.document.specs.Rows.{row_cells, encode_rows, decode_rows}
use Rattle.document.proofs.Encoding.{length_encode}
use Rattle.runs.specs.Steps.{step_cells}
use Rattle.membership.specs.Cells.{annotation_cells}
use Rattle.membership.specs.Judge.{Judging, judge_check_of, judge_answer}
use Rattle.std.specs.Prelude.{Result, Ok, Err, None, Some}
use Rattle.std.specs.Prelude.{Option as Perhaps}
use Rattle.base.specs.Refusals.{number}
use Rattle.base.specs.declared.refusal.Refusal.{Refusal}
use Rattle.base.specs.declared.refusal.TextRefusal.{TextRefusal}
use Rattle.term.specs.Read.{Reading, rows_read, refused_at, reading_map, read_of, read_answer, space_after as rows_after}
use Rattle.spelling.specs.Write.{write_of, write_answer, space_after as text_after}
use Rattle.emptiness.specs.declared.Sample.{Sample}
use Rattle.emptiness.specs.Answer.{emptiness_answer, shape_of, witness_check_of, space_of, emptiness_of, space_after as witness_after}
use Rattle.console.specs.Words.{refused_line, refusal_line, alive_lines, dead_line}
use Rattle.console.specs.Output.{Printed, room, text_space, live_lines, sample_lines, judge_line, rows_line, read_line, judged_line}

-- a space as it is lent, of zeros
pub zeros_long : (n : ℕ) → length {A = ℕ} (replicate n 0) ≡ n
zeros_long n = length-replicate {A = ℕ} n 0

-- the same bytes by another name
pub named : (a b d new : List ℕ) (k : ℕ) → a ≡ b → Printed a d new k → Printed b d new k
named a b d new k e p = subst (λ t. Printed t d new k) e p

-- the rows of a table, and what the cells behind them held
front_rows : (rows : List Row) (cells : List ℕ) → take (length rows * row_cells) (encode_rows rows ++ drop (length rows * row_cells) cells) ≡ encode_rows rows
front_rows rows cells = take_at (encode_rows rows) (drop (length rows * row_cells) cells) (length rows * row_cells) (length_encode rows)

front_long : (rows : List Row) (cells : List ℕ) → length rows * row_cells ≤ length (encode_rows rows ++ drop (length rows * row_cells) cells)
front_long rows cells =
    let e = length_encode rows in
    let f = length-append (encode_rows rows) (drop (length rows * row_cells) cells) in
    omega arith

-- the judge
abbrev pub line_for : Result (Perhaps ℕ) Refusal → List ℕ
line_for r = judge_line (judge_answer r)

pub judged_printed : (set cells work run work' run' : List ℕ) (r v : Result (Perhaps ℕ) Refusal) (d new : List ℕ) (k : ℕ) → Judging set cells work run r work' run' → length work ≡ room * annotation_cells → length run ≡ room * step_cells → r ≡ v → Printed (line_for v) d new k → Printed (rows_line set cells) d new k
judged_printed set cells work run work' run' r v d new k j hw hr e p =
    let b = accepts? (decode set) (decode_rows cells) in
    let x : line_for v ≡ judge_line (unless (judge_check_of set cells (length work) (length run)) b) = ap line_for (sym e) ∙ ap judge_line j.answer in
    let y : judge_line (unless (judge_check_of set cells (length work) (length run)) b) ≡ rows_line set cells = (λ i. judge_line (unless (judge_check_of set cells (hw i) (hr i)) b)) in
    named (line_for v) (rows_line set cells) d new k (x ∙ y) p

-- the reader: the rows that an answer counts stand at the front of the space
abbrev pub read_shown : List ℕ → Result ℕ TextRefusal → List ℕ → List ℕ
read_shown set (Ok n) cells = rows_line set (take (n * row_cells) cells)
read_shown set (Err e) cells = refusal_line (number e.refusal) e.place

read_line_lem : (set : List ℕ) (v : Reading (List Row)) (r : Result ℕ TextRefusal) (before : List ℕ) → read_answer r ≡ reading_map length v → read_shown set r (rows_after v before) ≡ read_line set v
read_line_lem set (rows_read rows) (Ok n) before e =
    let c : n ≡ length rows = cc in
    ap (λ m. rows_line set (take (m * row_cells) (rows_after (rows_read rows) before))) c ∙ ap (rows_line set) (front_rows rows before)
read_line_lem set (rows_read rows) (Err x) before e = cc
read_line_lem set (refused_at w p) (Ok n) before e = cc
read_line_lem set (refused_at w p) (Err x) before e =
    let a : number x.refusal ≡ w = cc in
    let b : x.place ≡ p = cc in
    (λ i. refusal_line (a i) (b i))

read_long : (v : Reading (List Row)) (n : ℕ) (before : List ℕ) → rows_read n ≡ reading_map length v → n * row_cells ≤ length (rows_after v before)
read_long (rows_read rows) n before e =
    let c : n ≡ length rows = cc in
    rw c (front_long rows before)
read_long (refused_at w p) n before e = cc

pub read_fits : (set text before after : List ℕ) (r : Result ℕ TextRefusal) (n : ℕ) → read_answer r ≡ reading_map length (read_of set [] [] text (length before)) → after ≡ rows_after (read_of set [] [] text (length before)) before → r ≡ Ok n → n * row_cells ≤ length after
read_fits set text before after r n e s q = rw s (read_long (read_of set [] [] text (length before)) n before (sym (ap read_answer q) ∙ e))

pub read_printed : (set text before after : List ℕ) (r w : Result ℕ TextRefusal) (d new : List ℕ) (k : ℕ) → length before ≡ max_rows * row_cells → read_answer r ≡ reading_map length (read_of set [] [] text (length before)) → after ≡ rows_after (read_of set [] [] text (length before)) before → r ≡ w → Printed (read_shown set w after) d new k → Printed (judged_line set text) d new k
read_printed set text before after r w d new k h e s q p =
    let v = read_of set [] [] text (length before) in
    let x : read_shown set w after ≡ read_line set v = ap (read_shown set w) s ∙ read_line_lem set v w before (sym (ap read_answer q) ∙ e) in
    named (read_shown set w after) (judged_line set text) d new k (x ∙ ap (λ n. read_line set (read_of set [] [] text n)) h) p

-- the writer: the bytes that an answer counts stand at the front of the space
abbrev pub write_shown : ℕ → Result ℕ Refusal → List ℕ → List ℕ
write_shown h (Ok n) text = alive_lines h (take n text)
write_shown h (Err e) text = refused_line (number e)

write_line : (h : ℕ) (v : Answer (List ℕ)) (r : Result ℕ Refusal) (before : List ℕ) → write_answer r ≡ answer_map length v → write_shown h r (text_after v before) ≡ live_lines h v
write_line h (gives text) (Ok n) before e =
    let c : n ≡ length text = cc in
    ap (λ m. alive_lines h (take m (text_after (gives text) before))) c ∙ ap (alive_lines h) (take_at text (drop (length text) before) (length text) refl)
write_line h (gives text) (Err x) before e = cc
write_line h (refuses m) (Ok n) before e = cc
write_line h (refuses m) (Err x) before e = let c : number x ≡ m = cc in ap refused_line c

write_long : (v : Answer (List ℕ)) (n : ℕ) (before : List ℕ) → gives n ≡ answer_map length v → n ≤ length (text_after v before)
write_long (gives text) n before e =
    let c : n ≡ length text = cc in
    let l = length-append text (drop (length text) before) in
    omega arith
write_long (refuses m) n before e = cc

pub write_fits : (set cells before after : List ℕ) (r : Result ℕ Refusal) (n : ℕ) → write_answer r ≡ answer_map length (write_of set [] [] cells (length before)) → after ≡ text_after (write_of set [] [] cells (length before)) before → r ≡ Ok n → n ≤ length after
write_fits set cells before after r n e s q = rw s (write_long (write_of set [] [] cells (length before)) n before (sym (ap write_answer q) ∙ e))

pub write_printed : (h : ℕ) (set cells before after : List ℕ) (r w : Result ℕ Refusal) (d new : List ℕ) (k : ℕ) → length before ≡ text_space → write_answer r ≡ answer_map length (write_of set [] [] cells (length before)) → after ≡ text_after (write_of set [] [] cells (length before)) before → r ≡ w → Printed (write_shown h w after) d new k → Printed (live_lines h (write_of set [] [] cells text_space)) d new k
write_printed h set cells before after r w d new k l e s q p =
    let v = write_of set [] [] cells (length before) in
    let x : write_shown h w after ≡ live_lines h v = ap (write_shown h w) s ∙ write_line h v w before (sym (ap write_answer q) ∙ e) in
    named (write_shown h w after) (live_lines h (write_of set [] [] cells text_space)) d new k (x ∙ ap (λ n. live_lines h (write_of set [] [] cells n)) l) p

-- the emptiness test: a witness's rows stand at the front of the space
abbrev pub sample_shown : List ℕ → Result (Perhaps Sample) Refusal → List ℕ → List ℕ
sample_shown set (Ok None) cells = dead_line
sample_shown set (Ok (Some s)) cells = live_lines s.levels (write_of set [] [] (take (s.rows * row_cells) cells) text_space)
sample_shown set (Err e) cells = refused_line (number e)

sample_line : (set : List ℕ) (n : ℕ) (o : Option Tree) (r : Result (Perhaps Sample) Refusal) (before : List ℕ) → emptiness_answer r ≡ unless n (shape_of o) → sample_shown set r (space_of n o before) ≡ sample_lines set (unless n o)
unfolding unless
sample_line set zero none (Ok None) before e = refl
sample_line set zero none (Ok (Some s)) before e = cc
sample_line set zero none (Err x) before e = cc
sample_line set zero (some w) (Ok None) before e = cc
sample_line set zero (some w) (Ok (Some s)) before e =
    let p : ◌≡◌ {A = ℕ × ℕ} (s.rows, s.levels) (length (rows_of w), levels w) = cc in
    ap (λ (x : ℕ × ℕ). live_lines x.1 (write_of set [] [] (take (x.0 * row_cells) (space_of 0 (some w) before)) text_space)) p
    ∙ ap (λ cells. live_lines (levels w) (write_of set [] [] cells text_space)) (front_rows (rows_of w) before)
sample_line set zero (some w) (Err x) before e = cc
sample_line set (suc n) o (Ok v) before e = cc
sample_line set (suc n) o (Err x) before e = let c : number x ≡ suc n = cc in ap refused_line c

sample_long : (n : ℕ) (o : Option Tree) (s : Sample) (before : List ℕ) → gives (some (s.rows, s.levels)) ≡ unless n (shape_of o) → s.rows * row_cells ≤ length (space_of n o before)
unfolding unless
sample_long zero none s before e = cc
sample_long zero (some w) s before e =
    let p : ◌≡◌ {A = ℕ × ℕ} (s.rows, s.levels) (length (rows_of w), levels w) = cc in
    let c : s.rows ≡ length (rows_of w) = ap (λ (x : ℕ × ℕ). x.0) p in
    rw c (front_long (rows_of w) before)
sample_long (suc n) o s before e = cc

pub sample_fits : (set before after : List ℕ) (r : Result (Perhaps Sample) Refusal) (t : Sample) → emptiness_answer r ≡ emptiness_of set (length before) → after ≡ witness_after set before → r ≡ Ok (Some t) → t.rows * row_cells ≤ length after
sample_fits set before after r t e s q = rw s (sample_long (witness_check_of set (length before)) (witness (decode set)) t before (sym (ap emptiness_answer q) ∙ e))

pub sample_printed : (set before after : List ℕ) (r w : Result (Perhaps Sample) Refusal) (d new : List ℕ) (k : ℕ) → length before ≡ max_states * row_cells → emptiness_answer r ≡ emptiness_of set (length before) → after ≡ witness_after set before → r ≡ w → Printed (sample_shown set w after) d new k → Printed (sample_lines set (unless (witness_check_of set (max_states * row_cells)) (witness (decode set)))) d new k
sample_printed set before after r w d new k l e s q p =
    let n = witness_check_of set (length before) in
    let o = witness (decode set) in
    let x : sample_shown set w after ≡ sample_lines set (unless n o) = ap (sample_shown set w) s ∙ sample_line set n o w before (sym (ap emptiness_answer q) ∙ e) in
    named (sample_shown set w after) (sample_lines set (unless (witness_check_of set (max_states * row_cells)) o)) d new k (x ∙ ap (λ m. sample_lines set (unless (witness_check_of set m) o)) l) p
