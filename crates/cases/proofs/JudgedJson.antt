-- The judge on the rows of a JSON text answers for the text's tree. Assumes nothing.
use mathlib.Core.Path.{◌≡◌, ap, subst, ◌∙◌}
use mathlib.Core.Logic.{◌↔◌}
use mathlib.Core.List.{List}
use mathlib.Core.Bool.{Bool, true, false}
use Prim.Native.Nat.{ℕ, ◌/◌, ◌≤◌}
use borrow.Author.Tests.{le-leb}
use lib.ListN.{length}
use Rattle.model.specs.Refusal.{demand, and_after, Answer, gives, unless}
use Rattle.model.specs.Tree.{Tree}
use Rattle.model.specs.Table.{Row, tree_of}
use Rattle.model.specs.Run.{Accepts}
use Rattle.model.specs.Annotation.{annotations, accepts?}
use Rattle.automaton.specs.Stored.{decode}
use Rattle.automaton.specs.Check.{check_of}
use Rattle.automaton.proofs.Sound.{sound_decode}
use Rattle.document.specs.Rows.{encode_rows, decode_rows}
use Rattle.document.specs.Check.{document_check_of}
use Rattle.document.proofs.Sound.{rows_back}
use Rattle.names.specs.Lines.{lines}
use Rattle.runs.specs.Steps.{step_cells}
use Rattle.membership.specs.Cells.{room_of}
use Rattle.membership.specs.Judge.{judge_check_of}
use Rattle.membership.proofs.Meaning.{judged_means}
use Rattle.jsonrows.specs.Signature.{Over}
use Rattle.jsonrows.specs.Read.{rows_read, read_of}
use Rattle.jsonrows.specs.Meaning.{TreeOfText}
use Rattle.jsonrows.proofs.ReadTexts.{read_means}
use Rattle.jsonrows.proofs.Exactly.{tree_unique}

-- what the judge answers by its definition, with so many cells in the work and the run space
abbrev pub answer_of : List ℕ → List ℕ → ℕ → ℕ → Answer Bool
answer_of set cells work run = unless (judge_check_of set cells work run) (accepts? (decode set) (decode_rows cells))

-- room for a run is room for a judging's steps, and room for the annotations
none_refuses : (set : List ℕ) (rows : List Row) (work run : ℕ) → document_check_of set (encode_rows rows) ≡ 0 → decode_rows (encode_rows rows) ≡ rows → room_of work ≤ run / step_cells → length (annotations (decode set) rows) ≤ room_of work → judge_check_of set (encode_rows rows) work run ≡ 0
unfolding judge_check_of and_after demand
none_refuses set rows work run passes back room few =
    rw (passes, back, le-leb (room_of work) (run / step_cells) room, le-leb (length (annotations (decode set) rows)) (room_of work) few)

-- THE JUDGE SAYS YES ON THE ROWS OF A JSON TEXT EXACTLY WHEN THE SET ACCEPTS THE TEXT'S TREE, and no exactly when it does not; nothing refuses them where the spaces are large enough.
pub judged_json : (set list text : List ℕ) (space work run : ℕ) (rows : List Row) (tree : Tree) → read_of list text space ≡ rows_read rows → TreeOfText (lines list) text tree → check_of set ≡ 0 → Over (length (lines list)) (decode set)
    → room_of work ≤ run / step_cells → length (annotations (decode set) rows) ≤ room_of work
    → (judge_check_of set (encode_rows rows) work run ≡ 0) × ((answer_of set (encode_rows rows) work run ≡ gives true) ↔ Accepts (decode set) tree) × ((answer_of set (encode_rows rows) work run ≡ gives false) ↔ (Accepts (decode set) tree → ⊥))
judged_json set list text space work run rows tree e is sound over room few =
    let h = read_means list text space rows e in
    let back : decode_rows (encode_rows rows) ≡ rows = rows_back (decode set) rows (sound_decode set sound) (h.sound (decode set) over) in
    let same : tree_of (decode_rows (encode_rows rows)) ≡ tree = ap tree_of back ∙ h.same_tree ∙ tree_unique (lines list) text h.tree tree h.text_is is in
    let passes = none_refuses set rows work run (h.passes set sound over) back room few in
    let (yes-means, no-means) = judged_means set (encode_rows rows) work run passes in
    (passes, subst (λ x. (answer_of set (encode_rows rows) work run ≡ gives true) ↔ Accepts (decode set) x) same yes-means, subst (λ x. (answer_of set (encode_rows rows) work run ≡ gives false) ↔ (Accepts (decode set) x → ⊥)) same no-means)
