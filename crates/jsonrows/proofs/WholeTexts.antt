-- A whole text: nothing is held at first, and each answer is by what the reader of values said. Assumes nothing.
use mathlib.Core.Path.{◌≡◌, refl, sym, ap, subst, ◌∙◌}
use mathlib.Core.Bool.{Bool, true, false, cond}
use mathlib.Core.List.{List, [], ◌++◌}
use Rattle.std.specs.Prelude.{Result, Ok, Err}
use Prim.Native.Nat.{ℕ, ◌*◌, ◌/◌, ◌≤◌, min}
use native.Mathlib.Nat.{min-le_left, min-le_right, div-mul-le_self, mul-le-mul_right}
use native.Mathlib.Omega.{arith}
use borrow.Author.Tests.{eq-eqb, ne_eqb}
use lib.Dec.{eqb}
use lib.ListN.{length, take, drop, replicate}
use lib.Seq.{length-take-le}
use Rattle.model.specs.Limits.{max_rows, max_levels}
use Rattle.model.specs.Space.{put_at}
use Rattle.model.specs.Table.{Row}
use Rattle.model.proofs.Space.{put_front}
use Rattle.model.proofs.Build.{no_rows}
use Rattle.model.proofs.Tab.{length_tab}
use Rattle.document.specs.Rows.{row_cells, row_in, rows_below}
use Rattle.document.specs.Index.{slot_count}
use Rattle.document.proofs.Building.{built_none}
use Rattle.document.proofs.Probing.{indexed_none}
use Rattle.names.specs.Lines.{lines}
use Rattle.jsontext.specs.Decoded.{text_slot}
use Rattle.jsontext.specs.Spaces.{space_end}
use Rattle.jsonrows.specs.Keys.{keys_fit?}
use Rattle.jsonrows.specs.Grammar.{Outcome, built, value}
use Rattle.jsonrows.specs.State.{text_at, Holds, Says}
use Rattle.jsonrows.specs.Read.{Reading, rows_read, refused_at, reading_map, whole_text, read_text, setting_for, read_of}
use Rattle.jsonrows.specs.Answer.{read_answer, space_after, Answers}
use Rattle.base.specs.Refusals.{number}
use Rattle.base.specs.declared.refusal.Refusal.TheVariants.{JsonFault, KeyList}
use Rattle.base.specs.declared.refusal.TextRefusal.{TextRefusal}
use Rattle.jsonrows.specs.declared.rows.Part.{Part}
use Rattle.jsonrows.proofs.Holding.{said, said_no}
use Rattle.jsonrows.proofs.ReadValues.{value_read}

-- the limit of a space
module _ (old : List ℕ) (limit : ℕ) (e : limit ≡ min max_rows (length old / row_cells)) where
  limit_few : limit ≤ max_rows
  limit_few = let k = min-le_left max_rows (length old / row_cells) in omega arith

  limit_room : limit * row_cells ≤ length old
  limit_room =
      let k = min-le_right max_rows (length old / row_cells) in
      let m = div-mul-le_self (length old) row_cells in
      let p : limit * row_cells ≤ length old / row_cells * row_cells = mul-le-mul_right row_cells (rw e k) in
      omega arith

  -- nothing is read yet: cells for as many rows as a table has, places for as many texts, and empty slots
  pub holds_none : (t cells starts : List ℕ) → length cells ≡ max_rows * row_cells → length starts ≡ 2 * max_rows → Holds t cells (replicate slot_count 0) starts (replicate slot_count 0) 0 0 limit
  holds_none t cells starts size many =
      record {
        ready = record { built = built_none cells; encoded = refl; few = limit_few; room = omega (arith, size, limit_few) };
        size = many;
        whole = λ k l. let z : ⊥ = omega arith in absurd z;
        distinct = λ j k l m e. let z : ⊥ = omega arith in absurd z;
        indexed = indexed_none (λ k. text_slot (text_at t starts k));
        few = omega arith;
        fresh = λ k l. refl;
        lower = no_rows;
        leaves = λ k l. let z : ⊥ = omega arith in absurd z;
      }

-- what the reader of values said of a text from its first byte that is no space, its rows in the cells cs
module _ (list t old : List ℕ) (limit first : ℕ) (e : limit ≡ min max_rows (length old / row_cells)) (f : first ≡ space_end t 0) {r₀ : Result Part TextRefusal} {cs ss starts found before : List ℕ} {n₀ : ℕ} (says : Says t cs ss starts found before n₀ limit r₀ (value max_levels (record { keys = lines list; limit = limit }) t first (built [] []))) where
  abbrev outcome : Outcome
  outcome = value max_levels (record { keys = lines list; limit = limit }) t first (built [] [])

  as_read : (v : Reading (List Row)) (r : Result ℕ TextRefusal) (new : List ℕ) → whole_text t outcome ≡ v → read_answer r ≡ reading_map length v → new ≡ space_after v old → Answers (read_text max_levels (setting_for list (length old)) t) r old new
  unfolding read_text
  as_read v r new q a b =
      subst (λ w. Answers w r old new)
      (sym q ∙ (λ i. whole_text t (value max_levels (record { keys = lines list; limit = e i }) t (f i) (built [] []))))
      (record { answer = a; space = b })

  pub text_refused : {w : TextRefusal} → r₀ ≡ Err w → Answers (read_text max_levels (setting_for list (length old)) t) (Err w) old old
  text_refused {w} q = as_read (refused_at (number w.refusal) w.place) (Err w) old (ap (whole_text t) (said_no says q)) refl refl

  module _ {p : Part} (q : r₀ ≡ Ok p) where
    whole : (b : Bool) → eqb (space_end t p.next) (length t) ≡ b → whole_text t outcome ≡ cond b (rows_read (rows_below cs p.counts.used)) (refused_at 71 (space_end t p.next))
    whole b g = ap (whole_text t) (said says q).outcome ∙ ap (λ x. cond x (rows_read (rows_below cs p.counts.used)) (refused_at 71 (space_end t p.next))) g

    few : p.counts.used ≤ limit
    few =
        let h = value_read (record { keys = lines list; limit = limit }) t max_levels first (built [] []) (said says q).outcome in
        let k = h.planted.few (omega arith) in
        omega (arith, length_tab p.counts.used (row_in cs))

    -- the rows lie inside the cells
    pub text_inside : (k : ℕ) → k ≡ p.counts.used * row_cells → k ≤ length cs
    text_inside k g = let a = few in let r = (said says q).holds.ready.room in omega arith

    pub text_more : {end : ℕ} → end ≡ space_end t p.next → (end ≡ length t → ⊥) → Answers (read_text max_levels (setting_for list (length old)) t) (Err (record { refusal = JsonFault; place = end })) old old
    text_more {end} g h =
        as_read (refused_at 71 end) (Err (record { refusal = JsonFault; place = end })) old (whole false (ne_eqb (space_end t p.next) (length t) (λ x. h (g ∙ x))) ∙ ap (refused_at 71) (sym g)) refl refl

    front : (k : ℕ) → k ≡ p.counts.used * row_cells → put_at old 0 (take k cs) ≡ take k cs ++ drop k old
    front k g =
        let a = few in
        let m = limit_room old limit e in
        let l = length-take-le k cs (text_inside k g) in
        put_front old (take k cs) (omega arith) ∙ ap (λ m. take k cs ++ drop m old) l

    pub text_rows : {end : ℕ} → end ≡ space_end t p.next → end ≡ length t → (new : List ℕ) (k : ℕ) → k ≡ p.counts.used * row_cells → new ≡ put_at old 0 (take k cs) → Answers (read_text max_levels (setting_for list (length old)) t) (Ok p.counts.used) old new
    text_rows h g new k l w =
        let many : length (rows_below cs p.counts.used) ≡ p.counts.used = length_tab p.counts.used (row_in cs) in
        as_read (rows_read (rows_below cs p.counts.used)) (Ok p.counts.used) new (whole true (eq-eqb (space_end t p.next) (length t) (sym h ∙ g))) (ap rows_read (sym many))
        (w ∙ front k l ∙ ap (λ m. take m cs ++ drop m old) l ∙ (λ i. (said says q).holds.ready.encoded i ++ drop (sym many i * row_cells) old))

-- the key list first, then the text
module _ (list t old : List ℕ) where
  list_is : (b : Bool) → b ≡ keys_fit? list → read_of list t (length old) ≡ cond b (read_text max_levels (setting_for list (length old)) t) (refused_at 74 0)
  unfolding read_of
  list_is b f = ap (λ c. cond c (read_text max_levels (setting_for list (length old)) t) (refused_at 74 0)) (sym f)

  answers_of : (v : Reading (List Row)) (r : Result ℕ TextRefusal) (new : List ℕ) → read_of list t (length old) ≡ v → Answers v r old new → (read_answer r ≡ reading_map length (read_of list t (length old))) × (new ≡ space_after (read_of list t (length old)) old)
  answers_of v r new f h = (h.answer ∙ ap (reading_map length) (sym f), h.space ∙ ap (λ x. space_after x old) (sym f))

  pub list_refused : false ≡ keys_fit? list → (read_answer (Err (record { refusal = KeyList; place = 0 })) ≡ reading_map length (read_of list t (length old))) × (old ≡ space_after (read_of list t (length old)) old)
  list_refused f = answers_of (refused_at 74 0) (Err (record { refusal = KeyList; place = 0 })) old (list_is false f) (record { answer = refl; space = refl })

  pub text_answers : true ≡ keys_fit? list → (r : Result ℕ TextRefusal) (new : List ℕ) → Answers (read_text max_levels (setting_for list (length old)) t) r old new → (read_answer r ≡ reading_map length (read_of list t (length old))) × (new ≡ space_after (read_of list t (length old)) old)
  text_answers f r new h = answers_of (read_text max_levels (setting_for list (length old)) t) r new (list_is true f) h
