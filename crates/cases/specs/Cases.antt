-- The starred cases of document 01, section "Examples, with the edges", from stored bytes in either form, name lists and texts on, against the entry points' definitions. Assumes nothing.
use Rattle.std.specs.Prelude.{◌≡◌, List, [], ◌∷◌, ◌++◌, Bool, true, false, cond, ℕ, ◌+◌, ◌*◌, eqb, length, replicate, drop}
use Rattle.std.proofs.Math.Option.{Option, none, some}
use Rattle.model.specs.Refusal.{Answer, gives, refuses, unless}
use Rattle.model.specs.Boolean.{product}
use Rattle.model.specs.Annotation.{annotations, accepts?}
use Rattle.model.specs.Written.{Step}
use Rattle.automaton.specs.Stored.{decode}
use Rattle.document.specs.Rows.{row_cells, decode_rows, encode_rows}
use Rattle.runs.specs.Steps.{step_cells, decode_steps}
use Rattle.runs.specs.Check.{check_run_of}
use Rattle.membership.specs.Cells.{annotation_cells}
use Rattle.membership.specs.Judge.{judge_check_of}
use Rattle.boolean.specs.Answer.{combined_of, combined_space}
use Rattle.emptiness.specs.Answer.{emptiness_of, space_after}
use Rattle.term.specs.Read.{rows_read, refused_at, read_of}
use Rattle.cases.specs.Sets.{set_e, set_g, set_d, set_b, set_eB, wide_e, wide_g, wide_d, wide_b, wide_eB}

-- the name lists: pair, a, b; and g, a
abbrev pub pair_names : List ℕ
pair_names = 112 ∷ 97 ∷ 105 ∷ 114 ∷ 10 ∷ 97 ∷ 10 ∷ 98 ∷ []

abbrev pub g_names : List ℕ
g_names = 103 ∷ 10 ∷ 97 ∷ []

-- texts: a, b, a=N, pair(..,..), g(..)
abbrev pub a : List ℕ
a = 97 ∷ []

abbrev pub b : List ℕ
b = 98 ∷ []

abbrev pub a= : ℕ → List ℕ
a= n = 97 ∷ 61 ∷ (48 + n) ∷ []

abbrev pub pair : List ℕ → List ℕ → List ℕ
pair x y = 112 ∷ 97 ∷ 105 ∷ 114 ∷ 40 ∷ (x ++ 44 ∷ (y ++ 41 ∷ []))

abbrev pub g : List ℕ → List ℕ
g x = 103 ∷ 40 ∷ (x ++ 41 ∷ [])

-- the cells of a text's rows, with the name list as the site's and space for 1,024; none where it is refused
abbrev pub cells_from : List ℕ → List ℕ → List ℕ → List ℕ
cells_from s names t = elim (read_of s names [] t 10240) [ rows_read rows ↦ encode_rows rows | refused_at w p ↦ [] ]

pub data Case : Type 0 where
  -- set, names and text: so many rows, the judge says yes or no, and there are so many annotations, for which there is room
  judged : List ℕ → List ℕ → List ℕ → ℕ → Bool → ℕ → Case
  -- with room for so many annotations the judge refuses with a number
  refused : List ℕ → List ℕ → List ℕ → ℕ → ℕ → Case
  -- every run that passes the run check has two steps on row 0
  twice : List ℕ → List ℕ → List ℕ → Case
  -- two sets demanded together are these bytes
  together : List ℕ → List ℕ → List ℕ → Case
  -- the sample's text, rows and height
  live : List ℕ → List ℕ → List ℕ → ℕ → ℕ → Case
  dead : List ℕ → Case
  -- refused at the sample, with this number
  unsampled : List ℕ → ℕ → Case

-- The list, in the paper's order, of E, G, D, B and of E and B demanded together, which is written in the wide form.
abbrev pub cases_of : List ℕ → List ℕ → List ℕ → List ℕ → List ℕ → List Case
cases_of E G D B EB =
    judged E pair_names (pair (a= 7) (a= 7)) 2 true 2
    ∷ refused E pair_names (pair (a= 7) (a= 7)) 1 31
    ∷ judged E pair_names (pair (a= 7) (a= 8)) 3 false 2
    ∷ judged E pair_names (pair a b) 3 false 2
    ∷ judged E pair_names a 1 false 1
    ∷ judged G g_names (g (g a)) 3 true 3
    ∷ judged G g_names (g (g (g (g a)))) 5 false 3
    ∷ judged B pair_names (pair a a) 2 true 3
    ∷ twice B pair_names (pair a a)
    ∷ together E B wide_eB
    ∷ judged EB pair_names (pair (a= 1) (a= 2)) 3 false 4
    ∷ judged EB pair_names (pair a a) 2 true 3
    ∷ live E pair_names (pair a a) 2 2
    ∷ dead D
    ∷ unsampled EB 41
    ∷ []

-- The sets in the old form, and in the wide one.
abbrev pub cases : List Case
cases = cases_of set_e set_g set_d set_b set_eB ++ cases_of wide_e wide_g wide_d wide_b wide_eB

-- how many steps are on row 0
abbrev pub on_first : List Step → ℕ
on_first [] = 0
on_first (s ∷ run) = cond (eqb s.row 0) 1 0 + on_first run

-- what the judge's contract says with room for n annotations and as many steps
abbrev pub answer : List ℕ → List ℕ → ℕ → Answer Bool
answer s cells n = unless (judge_check_of s cells (n * annotation_cells) (n * step_cells)) (accepts? (decode s) (decode_rows cells))

-- what lies in the row space before the sample is asked for: room for the six states of E and B together, and a part of a row
abbrev pub lent : List ℕ
lent = replicate (6 * row_cells + 5) 9

-- the sample's answer, and the cells that it leaves at the front of the space
abbrev pub Sampled : List ℕ → Answer (Option (ℕ × ℕ)) → List ℕ → Type 0
Sampled s e cells = (emptiness_of s (length lent) ≡ e) × (space_after s lent ≡ cells ++ drop (length cells) lent)

-- the space that the product is written to
abbrev pub zeros : List ℕ → List ℕ
zeros bytes = replicate (length bytes) 0

abbrev pub CaseHolds : Case → Type 0
CaseHolds (judged s names t rows b n) =
    let cells = cells_from s names t in
    (length cells ≡ rows * row_cells)
    × (answer s cells n ≡ gives b)
    × (length (annotations (decode s) (decode_rows cells)) ≡ n)
CaseHolds (refused s names t room n) = answer s (cells_from s names t) room ≡ refuses n
CaseHolds (twice s names t) = (run : List ℕ) → check_run_of s (cells_from s names t) run ≡ 0 → on_first (decode_steps run) ≡ 2
CaseHolds (together s t bytes) = (combined_of product s t (zeros bytes) ≡ gives (length bytes)) × (combined_space product s t (zeros bytes) ≡ bytes)
CaseHolds (live s names t n h) = Sampled s (gives (some (n, h))) (cells_from s names t)
CaseHolds (dead s) = Sampled s (gives none) []
CaseHolds (unsampled s k) = Sampled s (refuses k) []

abbrev pub AllHold : List Case → Type 0
AllHold [] = Unit {0}
AllHold (c ∷ cs) = CaseHolds c × AllHold cs
