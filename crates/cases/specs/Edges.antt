-- The limits of document 01, each at the largest and one past it, as bytes, rows and lines that reach them; and the line ends of document 02, Wish 5. Assumes nothing.
use Rattle.std.specs.Prelude.{◌≡◌, List, [], ◌∷◌, ◌++◌, true, false, cond, ℕ, ◌-◌, ◌*◌, eqb, replicate, take}
use Rattle.model.specs.Lists.{tab}
use Rattle.model.specs.Table.{Row}
use Rattle.automaton.specs.declared.Form.{Form}
use Rattle.automaton.specs.declared.Form.TheVariants.{Narrow}
use Rattle.automaton.specs.Form.{state_width}
use Rattle.automaton.specs.Encode.{encode_header}
use Rattle.automaton.specs.Check.{check_of}
use Rattle.document.specs.Rows.{row_cells}
use Rattle.document.specs.Check.{counted?, levels_check_of}
use Rattle.runs.specs.Steps.{step_cells}
use Rattle.runs.specs.Check.{counted? as steps?}
use Rattle.membership.specs.Cells.{annotation_cells, room_of}
use Rattle.names.specs.Names.{name?, shown_name}
use Rattle.names.specs.Check.{list_fits?, names_check_of}
use Rattle.names.specs.Saved.{on_windows}
use Rattle.cases.specs.Sets.{set_e}

-- a set in a form, of constants with states that are not final, and no rules
abbrev pub bare_in : Form → ℕ → ℕ → ℕ → List ℕ
bare_in form symbols states tags = encode_header form symbols states tags 0 ++ replicate symbols 0 ++ replicate (state_width form * states) 0

abbrev pub bare : ℕ → ℕ → ℕ → List ℕ
bare = bare_in Narrow

-- a chain of so many rows
abbrev pub chain : ℕ → List Row
chain n = tab n (λ i. record { symbol = 0; kind = 0; payload = 0; children = cond (eqb i 0) [] ((i - 1) ∷ []) })

-- 64 symbols pass, 65 give 2; 58 bytes of E give 3; and so with each limit
pub record Edges : Type 0 where
  pub symbols : (check_of (bare 64 1 0) ≡ 0) × (check_of (bare 65 1 0) ≡ 2) × (check_of (bare 0 1 0) ≡ 2)
  pub states : (check_of (bare 1 256 0) ≡ 0) × (check_of (bare 1 257 0) ≡ 2) × (check_of (bare 1 0 0) ≡ 2)
  pub rules : (check_of (encode_header Narrow 1 1 0 1024) ≡ 3) × (check_of (encode_header Narrow 1 1 0 1025) ≡ 2)
  pub short : check_of (take 58 set_e) ≡ 3
  pub rows : (counted? (replicate (1024 * row_cells) 0) ≡ true) × (counted? (replicate (1025 * row_cells) 0) ≡ false) × (counted? [] ≡ false)
  pub levels : (levels_check_of (chain 256) ≡ 0) × (levels_check_of (chain 257) ≡ 17)
  pub steps : (steps? (replicate (4096 * step_cells) 0) ≡ true) × (steps? (replicate (4097 * step_cells) 0) ≡ false) × (steps? [] ≡ false)
  pub room : (room_of (4096 * annotation_cells) ≡ 4096) × (room_of (4097 * annotation_cells) ≡ 4096)
  pub lines : (list_fits? (replicate 64 10) ≡ true) × (list_fits? (replicate 65 10) ≡ false) × (list_fits? (replicate 63 10 ++ 32 ∷ []) ≡ true) × (list_fits? (replicate 64 10 ++ 32 ∷ []) ≡ false)
  pub names : (name? (replicate 16 97) ≡ true) × (name? (replicate 17 97) ≡ false) × (name? [] ≡ false)
  -- document 02, Wish 5: spaces and bytes 13 behind a name are not among its bytes, of which 16 are the most; a line of only those is empty
  pub line_ends : (list_fits? (replicate 16 97 ++ 32 ∷ 13 ∷ 32 ∷ []) ≡ true) × (list_fits? (replicate 17 97 ++ 13 ∷ []) ≡ false) × (list_fits? (13 ∷ 32 ∷ 10 ∷ []) ≡ true)
  -- they may not stand within a name or before it, nor a tab behind it
  pub elsewhere :
      (list_fits? (97 ∷ 13 ∷ 97 ∷ 10 ∷ []) ≡ false) × (list_fits? (97 ∷ 32 ∷ 97 ∷ 10 ∷ []) ≡ false) × (list_fits? (32 ∷ 97 ∷ 10 ∷ []) ≡ false)
      × (list_fits? (97 ∷ 9 ∷ 10 ∷ []) ≡ false)
  -- the name shown is without them, and 62 judges it so
  pub shown : (shown_name (97 ∷ 32 ∷ 13 ∷ 10 ∷ []) [] 0 ≡ 97 ∷ []) × (names_check_of 2 (97 ∷ 10 ∷ 97 ∷ 13 ∷ 10 ∷ []) [] ≡ 62)
  -- a list of three lines, the second empty, with the line ends of Windows
  pub windows : on_windows (97 ∷ 10 ∷ 10 ∷ 98 ∷ []) ≡ 97 ∷ 13 ∷ 10 ∷ 13 ∷ 10 ∷ 98 ∷ []
