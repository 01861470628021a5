-- A whole text: each answer by what the term reader said. Assumes nothing.
use mathlib.Core.Path.{◌≡◌, refl, sym, ap, subst, ◌∙◌}
use mathlib.Core.Bool.{Bool, true, false, cond}
use mathlib.Core.List.{List, [], ◌++◌}
use Prim.Native.Nat.{ℕ, ◌*◌, ◌/◌, ◌≤◌, min}
use native.Mathlib.Nat.{min-le_left, min-le_right, div-mul-le_self, mul-le-mul_right}
use native.Mathlib.Omega.{arith}
use borrow.Author.Tests.{eq-eqb, ne_eqb}
use lib.Dec.{eqb}
use lib.ListN.{length, take, drop, replicate, length-replicate}
use lib.Seq.{length-take-le}
use Rattle.model.specs.Limits.{max_rows, max_levels}
use Rattle.model.specs.Space.{put_at}
use Rattle.model.specs.Table.{Row}
use Rattle.model.proofs.Space.{put_front}
use Rattle.model.proofs.Tab.{length_tab}
use Rattle.automaton.specs.Stored.{decode}
use Rattle.document.specs.declared.rows.Row as number
use Rattle.document.specs.Rows.{row_cells, row_in, rows_below}
use Rattle.document.specs.Index.{slot_count}
use Rattle.document.proofs.Building.{built_none}
use Rattle.term.specs.Grammar.{good, read_term}
use Rattle.term.specs.State.{setting_of, Ready, Says}
use Rattle.term.specs.Read.{Reading, rows_read, refused_at, whole_text, read_text, reading_map, read_answer, space_after, Answers}
use Rattle.std.specs.Prelude.{Result, Ok, Err}
use Rattle.base.specs.Refusals as refusals
use Rattle.base.specs.declared.refusal.Refusal.TheVariants.{TextFault}
use Rattle.base.specs.declared.refusal.TextRefusal.{TextRefusal}
use Rattle.term.specs.declared.reader.TermEnd.{TermEnd}
use Rattle.term.proofs.Listing.{said, said_no}
use Rattle.term.proofs.Meaning.{term_few}

-- the limit of a space
module _ (old : List ℕ) (limit : ℕ) (e : limit ≡ min max_rows (length old / row_cells)) where
  limit_few : limit ≤ max_rows
  limit_few = let k = min-le_left max_rows (length old / row_cells) in omega arith

  limit_room : limit * row_cells ≤ length old
  limit_room =
      let k = min-le_right max_rows (length old / row_cells) in
      let m = div-mul-le_self (length old) row_cells in
      let p : limit * row_cells ≤ length old / row_cells * row_cells = mul-le-mul_right row_cells (rw e k) in
      omega arith

  -- nothing is read yet: cells for as many rows as a table has, and empty slots
  pub ready_start : Ready (replicate (max_rows * row_cells) 0) (replicate slot_count 0) 0 limit
  ready_start =
      let z = length-replicate {A = ℕ} (max_rows * row_cells) 0 in
      record { built = built_none (replicate (max_rows * row_cells) 0); encoded = refl; few = limit_few; room = omega (arith, limit_few) }

-- what the term reader said of a text, its rows in the cells cs
module _ (set names t old : List ℕ) (symbols limit : ℕ) (counted : symbols ≡ length (decode set).arities) (e : limit ≡ min max_rows (length old / row_cells)) (r₀ : Result TermEnd TextRefusal) (cs ss : List ℕ) (says : Says cs ss limit r₀ (read_term (setting_of set names symbols limit) t max_levels 0 [])) where
  as_read : (v : Reading (List Row)) (r : Result ℕ TextRefusal) (new : List ℕ) → whole_text (length t) (read_term (setting_of set names symbols limit) t max_levels 0 []) ≡ v → read_answer r ≡ reading_map length v → new ≡ space_after v old
      → Answers (read_text (setting_of set names symbols (min max_rows (length old / row_cells))) t) r old new
  unfolding read_text
  as_read v r new q a b =
      subst (λ m. Answers (whole_text (length t) (read_term (setting_of set names symbols m) t max_levels 0 [])) r old new) e
      (rw q (record { answer = a; space = b }))

  pub text_refused : (e : TextRefusal) → r₀ ≡ Err e → (r : Result ℕ TextRefusal) → r ≡ Err e → Answers (read_text (setting_of set names symbols (min max_rows (length old / row_cells))) t) r old old
  text_refused e q r is = as_read (refused_at (refusals.number e.refusal) e.place) r old (ap (whole_text (length t)) (said_no cs ss limit r₀ (read_term (setting_of set names symbols limit) t max_levels 0 []) says e q)) (ap read_answer is) refl

  module _ (whole_term : TermEnd) (q : r₀ ≡ Ok whole_term) where
    abbrev pub j : number.Row
    j = whole_term.row

    abbrev pub next : ℕ
    next = whole_term.next

    abbrev pub n : ℕ
    n = whole_term.used

    read : read_term (setting_of set names symbols limit) t max_levels 0 [] ≡ good j.0 next (rows_below cs n)
    read = (said cs ss limit r₀ (read_term (setting_of set names symbols limit) t max_levels 0 []) says whole_term q).0

    ready : Ready cs ss n limit
    ready = (said cs ss limit r₀ (read_term (setting_of set names symbols limit) t max_levels 0 []) says whole_term q).1

    whole : (b : Bool) → eqb next (length t) ≡ b → whole_text (length t) (read_term (setting_of set names symbols limit) t max_levels 0 []) ≡ cond b (rows_read (rows_below cs n)) (refused_at 63 next)
    whole b f = ap (whole_text (length t)) read ∙ ap (λ x. cond x (rows_read (rows_below cs n)) (refused_at 63 next)) f

    few : n ≤ limit
    few = let k = term_few set names symbols limit counted t max_levels 0 [] j.0 next (rows_below cs n) read (omega arith) in omega (arith, length_tab n (row_in cs))

    pub text_inside : (k : ℕ) → k ≡ n * row_cells → k ≤ length cs
    text_inside k f = let a = few in let r = ready.room in omega arith

    pub text_more : (next ≡ length t → ⊥) → (r : Result ℕ TextRefusal) → r ≡ Err (record { refusal = TextFault; place = next }) → Answers (read_text (setting_of set names symbols (min max_rows (length old / row_cells))) t) r old old
    text_more h r is = as_read (refused_at 63 next) r old (whole false (ne_eqb next (length t) h)) (ap read_answer is) refl

    front : (k : ℕ) → k ≡ n * row_cells → put_at old 0 (take k cs) ≡ take k cs ++ drop k old
    front k f =
        let a = few in
        let m = limit_room old limit e in
        let l = length-take-le k cs (text_inside k f) in
        put_front old (take k cs) (omega arith) ∙ ap (λ m. take k cs ++ drop m old) l

    pub text_rows : next ≡ length t → (new : List ℕ) (k : ℕ) → k ≡ n * row_cells → new ≡ put_at old 0 (take k cs) → Answers (read_text (setting_of set names symbols (min max_rows (length old / row_cells))) t) (Ok n) old new
    text_rows h new k f g =
        let many : length (rows_below cs n) ≡ n = length_tab n (row_in cs) in
        as_read (rows_read (rows_below cs n)) (Ok n) new (whole true (eq-eqb next (length t) h)) (ap rows_read (sym many))
        (g ∙ front k f ∙ ap (λ m. take m cs ++ drop m old) f ∙ (λ i. ready.encoded i ++ drop (sym many i * row_cells) old))
