-- What the builder's answer means to a reader: the row that a plain scan finds, one row more, or none of it at the limit. Assumes nothing.
use mathlib.Core.Path.{◌≡◌, refl, sym, ap, subst, ◌∙◌}
use mathlib.Core.Bool.{Bool, true, false}
use mathlib.Core.List.{List, [], ◌∷◌, ◌++◌, append_assoc, append-nil}
use mathlib.Core.Option.{Option, none, some}
use Prim.Native.Nat.{ℕ, ◌+◌, ◌*◌, ◌<◌, ◌≤◌}
use native.Mathlib.Numerals.{add-one}
use native.Mathlib.Omega.{arith}
use borrow.Author.Tests.{ltb-true, ltb-false}
use lib.Dec.{ltb}
use lib.ListN.{length, take, drop, length-append}
use lib.Seq.{take_at, length-take-le}
use Rattle.model.specs.Space.{put_at}
use Rattle.model.specs.Table.{Row}
use Rattle.model.specs.Build.{eq_row, find_row, placed}
use Rattle.model.proofs.Space.{put_fits}
use Rattle.model.proofs.Tab.{length_tab}
use Rattle.document.specs.declared.rows.Row as number
use Rattle.document.specs.declared.index.Probed.{Probed}
use Rattle.document.specs.declared.index.Probed.TheVariants.{Found, Free, Crowded}
use Rattle.document.specs.declared.builder.Placed.{Placed}
use Rattle.document.specs.declared.builder.Placed.TheVariants.{Known, Added, Full}
use Rattle.document.specs.Rows.{row_cells, row_in, rows_below, encode_row, encode_rows, Kept}
use Rattle.document.specs.Index.{probe, start_slot}
use Rattle.document.specs.Builder.{Built, room_for?, place_at, find_or_add, Did, Grows, Ready}
use Rattle.document.proofs.Putting.{rows_put}
use Rattle.document.proofs.Placement.{room, room_at}
use Rattle.document.proofs.Building.{grows}

encode_more : (rows : List Row) (r : Row) → encode_rows (rows ++ r ∷ []) ≡ encode_rows rows ++ encode_row r
encode_more [] r = append-nil (encode_row r)
encode_more (x ∷ rows) r = ap (encode_row x ++◌) (encode_more rows r) ∙ sym (append_assoc (encode_row x) (encode_rows rows) (encode_row r))

-- the cells after a row was added
module _ (cells slots : List ℕ) (n limit : ℕ) (r : Row) where
  free_cells : (i : number.Row) (t : ℕ) (b : Bool) → room_for? cells n limit ≡ b → (place_at cells slots n limit r (Free t)).answer ≡ Added i → (place_at cells slots n limit r (Free t)).cells ≡ put_at cells (n * row_cells) (encode_row r)
  free_cells i t true e q = rw e
  free_cells i t false e q = let f : Full ≡ Added i = rw e at q in let z : ◌≡◌ {A = ℕ} 0 1 = cc in absurd (omega arith)

  added_cells : (i : number.Row) (q : Probed) → (place_at cells slots n limit r q).answer ≡ Added i → (place_at cells slots n limit r q).cells ≡ put_at cells (n * row_cells) (encode_row r)
  added_cells i (Found j) e = let z : ◌≡◌ {A = ℕ} 0 1 = cc in absurd (omega arith)
  added_cells i (Free t) e = free_cells i t (room_for? cells n limit) refl e
  added_cells i Crowded e = let z : ◌≡◌ {A = ℕ} 0 1 = cc in absurd (omega arith)

  pub added_put : (i : number.Row) → (find_or_add cells slots n limit r).answer ≡ Added i → (find_or_add cells slots n limit r).cells ≡ put_at cells (n * row_cells) (encode_row r)
  unfolding find_or_add
  added_put i e = added_cells i (probe slots (λ k. eq_row r (row_in cells k)) (start_slot r)) e

  -- where the rows' cells stand in front, they do so with one more
  pub encoded_more : Kept r → n * row_cells + row_cells ≤ length cells → take (n * row_cells) cells ≡ encode_rows (rows_below cells n)
      → take ((n + 1) * row_cells) (put_at cells (n * row_cells) (encode_row r)) ≡ encode_rows (rows_below (put_at cells (n * row_cells) (encode_row r)) (n + 1))
  encoded_more k fits e =
      let front = take (n * row_cells) cells in
      let long : length (front ++ encode_row r) ≡ (n + 1) * row_cells = simp (length-append, length-take-le (n * row_cells) cells (omega arith)) (omega arith) in
      let put : put_at cells (n * row_cells) (encode_row r) ≡ (front ++ encode_row r) ++ drop (n * row_cells + row_cells) cells = put_fits cells (n * row_cells) (encode_row r) fits in
      ap (take ((n + 1) * row_cells)) put ∙ take_at (front ++ encode_row r) (drop (n * row_cells + row_cells) cells) ((n + 1) * row_cells) long
      ∙ ap (◌++ encode_row r) e ∙ sym (encode_more (rows_below cells n) r)
      ∙ ap encode_rows (sym (rows_put cells n r fits k)) ∙ ap (λ m. encode_rows (rows_below (put_at cells (n * row_cells) (encode_row r)) m)) (sym (add-one n))

-- room is a matter of the limit alone
pub room_is : (cells slots : List ℕ) (n limit : ℕ) → Ready cells slots n limit → room_for? cells n limit ≡ ltb n limit
room_is cells slots n limit h = room_at cells n limit h.few h.room

-- A row was there; it was added; there was no room.
pub data Put (cells slots cs ss : List ℕ) (n limit : ℕ) (r : Row) : Placed → Type 0 where
  was : (i : number.Row) → find_row r (rows_below cells n) ≡ some i.0 → cs ≡ cells → ss ≡ slots → Put cells slots cs ss n limit r (Known i)
  is : (i : number.Row) → i.0 ≡ n → find_row r (rows_below cells n) ≡ none → n < limit → rows_below cs (n + 1) ≡ rows_below cells n ++ r ∷ [] → Ready cs ss (n + 1) limit → Put cells slots cs ss n limit r (Added i)
  no_room : find_row r (rows_below cells n) ≡ none → limit ≤ n → Put cells slots cs ss n limit r Full

module _ (cells slots : List ℕ) (n limit : ℕ) (ready : Ready cells slots n limit) (r : Row) (kept : Kept r) (cs ss : List ℕ) where
  as_many : length (rows_below cells n) ≡ n
  as_many = length_tab n (row_in cells)

  grown : Grows cells slots n limit r (find_or_add cells slots n limit r)
  grown = grows cells slots n limit ready.built r kept

  known_by : (i : number.Row) (o : Option ℕ) → find_row r (rows_below cells n) ≡ o → placed (rows_below cells n) r o ≡ (rows_below cells n, i.0) → find_row r (rows_below cells n) ≡ some i.0
  known_by i (some k) u e = u ∙ ap some (ap (λ p. p.1) e)
  known_by i none u e = let z : ⊥ = omega (arith, length-append (rows_below cells n) (r ∷ []), as_many, ap length (ap (λ p. p.0) e)) in absurd z

  added_by : (more : List Row) → length more ≡ n + 1 → (o : Option ℕ) → find_row r (rows_below cells n) ≡ o → placed (rows_below cells n) r o ≡ (more, n) → (find_row r (rows_below cells n) ≡ none) × (more ≡ rows_below cells n ++ r ∷ [])
  added_by more l (some k) u e = let z : ⊥ = omega (arith, as_many, l, ap length (ap (λ p. p.0) e)) in absurd z
  added_by more l none u e = (u, sym (ap (λ p. p.0) e))

  pub puts : (a : Placed) → Did (find_or_add cells slots n limit r) a cs ss → Put cells slots cs ss n limit r a
  puts (Known i) did =
      let old = grown.known i.0 (sym did.answer) in
      was i (known_by i (find_row r (rows_below cells n)) refl old.0) (did.cells ∙ old.1) (did.slots ∙ old.2)
  puts (Added i) did =
      let new = grown.added i.0 (sym did.answer) in
      let put : cs ≡ put_at cells (n * row_cells) (encode_row r) = did.cells ∙ added_put cells slots n limit r i (sym did.answer) in
      let (free, more) = added_by (rows_below (find_or_add cells slots n limit r).cells (n + 1)) (length_tab (n + 1) (row_in (find_or_add cells slots n limit r).cells)) (find_row r (rows_below cells n)) refl new.2 in
      is i new.0 free (ltb-true n limit (sym (room_is cells slots n limit ready) ∙ new.1)) (ap (λ c. rows_below c (n + 1)) did.cells ∙ more)
      (record {
        built = subst (λ c. Built c ss (n + 1)) (sym did.cells) (subst (λ s. Built (find_or_add cells slots n limit r).cells s (n + 1)) (sym did.slots) new.3);
        encoded =
            subst (λ c. take ((n + 1) * row_cells) c ≡ encode_rows (rows_below c (n + 1))) (sym put)
            (encoded_more cells slots n limit r kept (room cells n limit true (sym new.1) refl).fits ready.encoded);
        few = ready.few;
        room = subst (λ m. limit * row_cells ≤ m) (sym (ap length did.cells ∙ grown.size)) ready.room;
      })
  puts Full did =
      let full = grown.full (sym did.answer) in
      no_room full.0 (let h = ltb-false n limit (sym (room_is cells slots n limit ready) ∙ full.1) in omega (arith, h))
