-- What the builder does about what the probe found. Assumes nothing.
use mathlib.Core.Path.{◌≡◌, refl, sym, ap, ◌∙◌}
use mathlib.Core.List.{List}
use mathlib.Core.Bool.{Bool, true, false, ◌&&◌}
use Prim.Native.Nat.{ℕ, ◌+◌, ◌*◌, ◌%◌, ◌<◌, ◌≤◌}
use native.Mathlib.Omega.{arith}
use lib.Dec.{T, ltb, leb, ltb→lt, leb→le}
use borrow.Author.Tests.{lt-ltb, le-leb}
use lib.ListN.{length, set}
use Rattle.model.specs.Limits.{max_rows}
use Rattle.model.specs.Space.{put_at}
use Rattle.model.specs.Table.{Row}
use Rattle.model.specs.Build.{eq_row}
use Rattle.model.proofs.Members.{T_and}
use Rattle.document.specs.declared.rows.Row as number
use Rattle.document.specs.declared.index.Probed.{Probed}
use Rattle.document.specs.declared.index.Probed.TheVariants.{Found, Free, Crowded}
use Rattle.document.specs.declared.builder.Placed.TheVariants.{Known, Added, Full}
use Rattle.document.specs.Rows.{row_cells, row_in, encode_row}
use Rattle.document.specs.Hash.{row_hash}
use Rattle.document.specs.Fields.{as_row}
use Rattle.document.specs.Index.{slot_count, start_slot, probe}
use Rattle.document.specs.Builder.{room_for?, place_at, find_or_add, Did}
use Rattle.document.proofs.Probing.{slot_inside}

-- room means fewer rows than a table may have, and cells for one more
pub record Room (cells : List ℕ) (n : ℕ) : Type 0 where
  pub few : n < max_rows
  pub fits : n * row_cells + row_cells ≤ length cells

pub room : (cells : List ℕ) (n limit : ℕ) (b : Bool) → b ≡ room_for? cells n limit → b ≡ true → Room cells n
unfolding room_for?
room cells n limit b e t =
    let h : T (room_for? cells n limit) = rw (← e, t) tt in
    let (f, g) = T_and (ltb n limit && ltb n max_rows) (leb (n * row_cells + row_cells) (length cells)) h in
    record {
      few = ltb→lt n max_rows (T_and (ltb n limit) (ltb n max_rows) f).1;
      fits = leb→le (n * row_cells + row_cells) (length cells) g;
    }

-- where a limit is within a table's and within the cells, it alone decides
pub room_at : (cells : List ℕ) (n limit : ℕ) → limit ≤ max_rows → limit * row_cells ≤ length cells → room_for? cells n limit ≡ ltb n limit
unfolding room_for?
room_at cells n limit h g = go (ltb n limit) refl
  where
    go : (b : Bool) → ltb n limit ≡ b → (b && ltb n max_rows && leb (n * row_cells + row_cells) (length cells)) ≡ b
    go true e = let l = ltb→lt n limit (rw e tt) in rw (lt-ltb n max_rows (omega arith), le-leb (n * row_cells + row_cells) (length cells) (omega arith))
    go false e = refl

-- the probe of the row r, from the slot st that its cells cs give, found q
module _ (cells slots : List ℕ) (n limit : ℕ) (r : Row) (cs : List ℕ) (st : ℕ) (q : Probed) (ec : cs ≡ encode_row r) (es : st ≡ row_hash cs % slot_count) (eq : q ≡ probe slots (λ i. eq_row r (row_in cells i)) st) where
  started : st ≡ start_slot r
  unfolding start_slot
  started = es ∙ ap (λ l. row_hash l % slot_count) ec

  looked : (x : Probed) → q ≡ x → find_or_add cells slots n limit r ≡ place_at cells slots n limit r x
  unfolding find_or_add
  looked x e =
      ap (place_at cells slots n limit r) (ap (probe slots (λ i. eq_row r (row_in cells i))) (sym started) ∙ sym eq ∙ e)

  pub did_known : (i : number.Row) → q ≡ Found i → Did (find_or_add cells slots n limit r) (Known i) cells slots
  did_known i e = rw (looked (Found i) e) (record { answer = refl; cells = refl; slots = refl })

  pub did_crowded : q ≡ Crowded → Did (find_or_add cells slots n limit r) Full cells slots
  did_crowded e = rw (looked Crowded e) (record { answer = refl; cells = refl; slots = refl })

  module _ (t : ℕ) (e : q ≡ Free t) (b : Bool) (eb : b ≡ room_for? cells n limit) where
    pub inside : t < slot_count
    inside = slot_inside slots (λ i. eq_row r (row_in cells i)) st t (sym eq ∙ e)

    pub did_full : b ≡ false → Did (find_or_add cells slots n limit r) Full cells slots
    did_full f = rw (looked (Free t) e, sym eb ∙ f) (record { answer = refl; cells = refl; slots = refl })

    pub did_add : b ≡ true → (w : List ℕ) → w ≡ put_at cells (n * row_cells) cs → Did (find_or_add cells slots n limit r) (Added (as_row n)) w (set slots t (n + 1))
    did_add g w ew = rw (looked (Free t) e, sym eb ∙ g) (record { answer = refl; cells = ew ∙ ap (put_at cells (n * row_cells)) ec; slots = refl })
