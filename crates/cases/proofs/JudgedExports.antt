-- The bad evening's set (`evening.set` of the examples) on exports in JSON: it has the symbols of its key list, and the judge on what is read answers for the trees of the texts. Assumes nothing.
use mathlib.Core.Path.{◌≡◌, refl}
use mathlib.Core.Logic.{◌↔◌}
use mathlib.Core.Bool.{Bool, true, false}
use mathlib.Core.List.{List, [], ◌∷◌, ◌++◌}
use Prim.Native.Nat.{ℕ, ◌*◌, ◌≤◌}
use Prim.Native.String.{String}
use native.Mathlib.Omega.{arith}
use borrow.Author.Tests.{eqb-true}
use lib.Dec.{eqb}
use lib.ListN.{length}
use Rattle.model.specs.Lists.{concat_map, all_below, any_below, uses?}
use Rattle.model.specs.Tree.{Tree, levels, highest}
use Rattle.model.specs.Automaton.{arity_of}
use Rattle.model.specs.Refusal.{demand, and_after, unless, Answer, gives}
use Rattle.model.specs.Table.{Row}
use Rattle.model.specs.Run.{Accepts}
use Rattle.model.specs.Annotation.{annotations}
use Rattle.model.specs.Build.{add_tree, add_forest, rows_of}
use Rattle.model.proofs.Below.{at}
use Rattle.automaton.specs.Form.{tags_width, state_width, rule_numbers, rule_width, kept_mask}
use Rattle.automaton.specs.Stored.{word, symbol_byte, form_of, final_byte, tags_at, tags_of, rule_word, place_of, forget_of, decode}
use Rattle.automaton.specs.Check.{counts_ok, offsets_ok, symbol_ok, state_ok, place_ok, rule_ok, key_word, ascends_at, forget_ok, check_of}
use Rattle.document.specs.Rows.{cell_in, encode_rows}
use Rattle.document.specs.Check.{counted?, known?, place_in, child?, children?, scalar_fits?, form_check_of, fresh?, distinct_check_of, used?, used_check_of, levels_check_of, table_check_of}
use Rattle.names.specs.Lines.{lines}
use Rattle.runs.specs.Steps.{step_cells}
use Rattle.membership.specs.Cells.{annotation_cells, room_of}
use Rattle.membership.specs.Judge.{judge_check_of}
use Rattle.jsonrows.specs.Signature.{json_arity, Over}
use Rattle.jsonrows.specs.Read.{rows_read, refused_at, read_of}
use Rattle.jsonrows.specs.Meaning.{TreeOfText}
use Rattle.jsonrows.proofs.Computing.{bytes, answered}
use Rattle.jsonrows.proofs.ReadTexts.{read_means}
use Rattle.cases.proofs.JudgedJson.{answer_of, judged_json}

-- 24 symbols, 24 states, 1 tag, 25 rules; 0 is the tagged state, on the pools, and 23 the final one
abbrev set : List ℕ
set =
    24 ∷ 0 ∷ 24 ∷ 0 ∷ 1 ∷ 0 ∷ 25 ∷ 0 ∷ 16 ∷ 0 ∷ 40 ∷ 0 ∷ 88 ∷ 0 ∷ 132 ∷ 1
    ∷ 0 ∷ 0 ∷ 3 ∷ 2 ∷ 0 ∷ 0 ∷ 0 ∷ 0 ∷ 2 ∷ 2 ∷ 2 ∷ 2 ∷ 2 ∷ 2 ∷ 2 ∷ 2 ∷ 2 ∷ 2 ∷ 2 ∷ 2 ∷ 2 ∷ 2 ∷ 2 ∷ 2
    ∷ 0 ∷ 1 ∷ 0 ∷ 0 ∷ 0 ∷ 0 ∷ 0 ∷ 0 ∷ 0 ∷ 0 ∷ 0 ∷ 0 ∷ 0 ∷ 0 ∷ 0 ∷ 0 ∷ 0 ∷ 0 ∷ 0 ∷ 0 ∷ 0 ∷ 0 ∷ 0 ∷ 0 ∷ 0 ∷ 0 ∷ 0 ∷ 0 ∷ 0 ∷ 0 ∷ 0 ∷ 0 ∷ 0 ∷ 0 ∷ 0 ∷ 0 ∷ 0 ∷ 0 ∷ 0 ∷ 0 ∷ 0 ∷ 0 ∷ 0 ∷ 0 ∷ 0 ∷ 0 ∷ 1 ∷ 0
    ∷ 0 ∷ 0 ∷ 4 ∷ 0 ∷ 255 ∷ 255 ∷ 255 ∷ 255 ∷ 255 ∷ 255 ∷ 255 ∷ 255
    ∷ 0 ∷ 0 ∷ 20 ∷ 0 ∷ 255 ∷ 255 ∷ 255 ∷ 255 ∷ 255 ∷ 255 ∷ 255 ∷ 255
    ∷ 1 ∷ 0 ∷ 18 ∷ 0 ∷ 255 ∷ 255 ∷ 255 ∷ 255 ∷ 255 ∷ 255 ∷ 255 ∷ 255
    ∷ 3 ∷ 0 ∷ 19 ∷ 0 ∷ 17 ∷ 0 ∷ 18 ∷ 0 ∷ 255 ∷ 255 ∷ 255 ∷ 255
    ∷ 3 ∷ 0 ∷ 19 ∷ 0 ∷ 17 ∷ 0 ∷ 19 ∷ 0 ∷ 255 ∷ 255 ∷ 255 ∷ 255
    ∷ 6 ∷ 0 ∷ 2 ∷ 0 ∷ 255 ∷ 255 ∷ 255 ∷ 255 ∷ 255 ∷ 255 ∷ 255 ∷ 255
    ∷ 6 ∷ 0 ∷ 3 ∷ 0 ∷ 255 ∷ 255 ∷ 255 ∷ 255 ∷ 255 ∷ 255 ∷ 255 ∷ 255
    ∷ 7 ∷ 0 ∷ 0 ∷ 0 ∷ 255 ∷ 255 ∷ 255 ∷ 255 ∷ 255 ∷ 255 ∷ 255 ∷ 255
    ∷ 7 ∷ 0 ∷ 1 ∷ 0 ∷ 255 ∷ 255 ∷ 255 ∷ 255 ∷ 255 ∷ 255 ∷ 255 ∷ 255
    ∷ 8 ∷ 0 ∷ 5 ∷ 0 ∷ 0 ∷ 0 ∷ 4 ∷ 0 ∷ 255 ∷ 255 ∷ 255 ∷ 255
    ∷ 8 ∷ 0 ∷ 23 ∷ 0 ∷ 0 ∷ 0 ∷ 22 ∷ 0 ∷ 255 ∷ 255 ∷ 255 ∷ 255
    ∷ 9 ∷ 0 ∷ 22 ∷ 0 ∷ 3 ∷ 0 ∷ 21 ∷ 0 ∷ 255 ∷ 255 ∷ 255 ∷ 255
    ∷ 10 ∷ 0 ∷ 21 ∷ 0 ∷ 19 ∷ 0 ∷ 20 ∷ 0 ∷ 255 ∷ 255 ∷ 255 ∷ 255
    ∷ 11 ∷ 0 ∷ 17 ∷ 0 ∷ 1 ∷ 0 ∷ 16 ∷ 0 ∷ 255 ∷ 255 ∷ 255 ∷ 255
    ∷ 12 ∷ 0 ∷ 16 ∷ 0 ∷ 1 ∷ 0 ∷ 15 ∷ 0 ∷ 255 ∷ 255 ∷ 255 ∷ 255
    ∷ 13 ∷ 0 ∷ 15 ∷ 0 ∷ 2 ∷ 0 ∷ 14 ∷ 0 ∷ 255 ∷ 255 ∷ 255 ∷ 255
    ∷ 14 ∷ 0 ∷ 14 ∷ 0 ∷ 3 ∷ 0 ∷ 13 ∷ 0 ∷ 255 ∷ 255 ∷ 255 ∷ 255
    ∷ 15 ∷ 0 ∷ 13 ∷ 0 ∷ 3 ∷ 0 ∷ 12 ∷ 0 ∷ 255 ∷ 255 ∷ 255 ∷ 255
    ∷ 16 ∷ 0 ∷ 12 ∷ 0 ∷ 3 ∷ 0 ∷ 11 ∷ 0 ∷ 255 ∷ 255 ∷ 255 ∷ 255
    ∷ 17 ∷ 0 ∷ 11 ∷ 0 ∷ 3 ∷ 0 ∷ 10 ∷ 0 ∷ 255 ∷ 255 ∷ 255 ∷ 255
    ∷ 18 ∷ 0 ∷ 10 ∷ 0 ∷ 3 ∷ 0 ∷ 9 ∷ 0 ∷ 255 ∷ 255 ∷ 255 ∷ 255
    ∷ 19 ∷ 0 ∷ 9 ∷ 0 ∷ 3 ∷ 0 ∷ 8 ∷ 0 ∷ 255 ∷ 255 ∷ 255 ∷ 255
    ∷ 20 ∷ 0 ∷ 8 ∷ 0 ∷ 3 ∷ 0 ∷ 7 ∷ 0 ∷ 255 ∷ 255 ∷ 255 ∷ 255
    ∷ 21 ∷ 0 ∷ 7 ∷ 0 ∷ 3 ∷ 0 ∷ 6 ∷ 0 ∷ 255 ∷ 255 ∷ 255 ∷ 255
    ∷ 22 ∷ 0 ∷ 6 ∷ 0 ∷ 1 ∷ 0 ∷ 5 ∷ 0 ∷ 255 ∷ 255 ∷ 255 ∷ 255
    ∷ []

abbrev keys : List ℕ
keys = concat_map (λ s. bytes s ++ 10 ∷ []) ("pool" ∷ "time" ∷ "servers" ∷ "name" ∷ "address" ∷ "weight" ∷ "sessions" ∷ "rate" ∷ "bytes_in" ∷ "bytes_out" ∷ "limit" ∷ "checks" ∷ "downtime" ∷ "load" ∷ "status" ∷ "queue" ∷ [])

-- an export of one server, with more before its weight, and its pool
abbrev export : String → String → List ℕ
export more pool =
    bytes "{\"pool\":\"web\",\"time\":1794760200,\"servers\":[{\"name\":\"web01\",\"address\":\"10.0.0.11:8080\","
    ++ bytes more
    ++ bytes "\"weight\":10,\"sessions\":40,\"rate\":0.0,\"bytes_in\":270630,\"bytes_out\":1048583,\"limit\":2000,\"checks\":0,\"downtime\":0,\"load\":0.125,\"status\":\"up\",\"pool\":\""
    ++ bytes pool
    ++ bytes "\"}]}"

-- spaces with room for 64 annotations, and as many steps
abbrev work : ℕ
work = 64 * annotation_cells

abbrev run : ℕ
run = 64 * step_cells

-- every definition on the way of the judge, and of the reader, is open
unfoldable judged : List Row → Answer Bool
unfolding answered all_below any_below place_of levels highest demand and_after unless add_tree add_forest rows_of word symbol_byte tags_width state_width rule_numbers rule_width kept_mask form_of final_byte tags_at tags_of rule_word forget_of decode counts_ok offsets_ok symbol_ok state_ok place_ok rule_ok key_word ascends_at forget_ok check_of cell_in counted? known? place_in child? children? scalar_fits? form_check_of fresh? distinct_check_of uses? used? used_check_of levels_check_of table_check_of room_of judge_check_of json_arity
judged rows = answer_of set (encode_rows rows) work run

sound : check_of set ≡ 0
unfolding judged
sound = refl

-- THE SET HAS THE SYMBOLS OF ITS KEY LIST.
pub over : Over (length (lines keys)) (decode set)
unfolding judged
over s l = (l, eqb-true _ _ (at (λ s. eqb (arity_of (decode set) s) (json_arity s)) 24 s refl l))

-- the rows that a text is read to
abbrev rows_from : List ℕ → List Row
rows_from text = elim (read_of keys text 10240) [ rows_read rows ↦ rows | refused_at w p ↦ [] ]

-- a tree is accepted, or it is not
abbrev Is : Bool → Tree → Type 0
Is true tree = Accepts (decode set) tree
Is false tree = Accepts (decode set) tree → ⊥

-- the text has a tree, which is accepted or not
abbrev TextIs : Bool → List ℕ → Type 0
TextIs b text = (tree : Tree) × TreeOfText (lines keys) text tree × Is b tree

-- what the judge answers on the rows of a text holds of its tree
module _ (text : List ℕ) (e : read_of keys text 10240 ≡ rows_read (rows_from text)) (few : length (annotations (decode set) (rows_from text)) ≤ 64) where
  abbrev Answers : Bool → Type 0
  Answers b = answer_of set (encode_rows (rows_from text)) work run ≡ gives b

  as_said : (b : Bool) (tree : Tree) → (Answers true ↔ Is true tree) → (Answers false ↔ Is false tree) → Answers b → Is b tree
  as_said true tree yes-means no-means = yes-means.0
  as_said false tree yes-means no-means = no-means.0

  holds : (b : Bool) → Answers b → TextIs b text
  unfolding room_of
  holds b answer =
      let h = read_means keys text 10240 (rows_from text) e in
      let (passes, yes-means, no-means) = judged_json set keys text 10240 work run (rows_from text) h.tree e h.text_is sound over (omega arith) few in
      (h.tree, h.text_is, as_said b h.tree yes-means no-means answer)

-- THE SET ACCEPTS THE EXPORT IN THE AGREED SHAPE.
pub agreed : TextIs true (export "" "web")
unfolding judged
agreed = holds (export "" "web") refl (omega arith) true refl

-- It does not accept one with a queue before the weight, nor one whose server has another pool.
pub with_queue : TextIs false (export "\"queue\":9," "web")
unfolding judged
with_queue = holds (export "\"queue\":9," "web") refl (omega arith) false refl

pub other_pool : TextIs false (export "" "mail")
unfolding judged
other_pool = holds (export "" "mail") refl (omega arith) false refl
