-- The end of a term: each way through the definition, by what the builder answered. Assumes nothing.
use mathlib.Core.Path.{◌≡◌, refl, sym, ap, subst, ◌∙◌}
use mathlib.Core.Bool.{Bool, true, false, cond}
use mathlib.Core.List.{List, [], ◌∷◌, ◌++◌}
use mathlib.Core.Option.{Option, none}
use Prim.Native.Nat.{ℕ, ◌+◌, ◌≤◌}
use native.Mathlib.Omega.{arith}
use borrow.Author.Tests.{eq-eqb, ne_eqb, lt-ltb, le-ltb}
use lib.Dec.{eqb, ltb}
use lib.ListN.{length, length-append}
use Rattle.model.specs.Limits.{max_children}
use Rattle.model.specs.Table.{Row}
use Rattle.model.specs.Build.{find_row}
use Rattle.model.proofs.Tab.{length_tab}
use Rattle.document.specs.declared.rows.Row as number
use Rattle.document.specs.declared.fields.RowFields.{RowFields}
use Rattle.document.specs.declared.builder.Placed.{Placed}
use Rattle.document.specs.declared.builder.Placed.TheVariants.{Known, Added, Full}
use Rattle.document.specs.Rows.{row_in, rows_below, used, Kept}
use Rattle.document.specs.Scalars.{kind_of, payload_of}
use Rattle.document.specs.Fields.{as_row, numbers_of, fields_row}
use Rattle.document.specs.Builder.{find_or_add, Did}
use Rattle.document.proofs.Encoding.{all_used, used_places}
use Rattle.document.proofs.Ready.{Put, was, is, no_room, puts}
use Rattle.term.specs.Scan.{scalar}
use Rattle.term.specs.Grammar.{Outcome, good, refused, row_of, place_row, end_term}
use Rattle.term.specs.State.{Ready, Held, Says}
use Rattle.std.specs.Prelude.{Result, Ok, Err}
use Rattle.base.specs.Refusals as refusals
use Rattle.base.specs.declared.refusal.Refusal.{Refusal}
use Rattle.base.specs.declared.refusal.Refusal.TheVariants.{TermChildren, TextRows}
use Rattle.base.specs.declared.refusal.TextRefusal.{TextRefusal}
use Rattle.term.specs.declared.reader.TermEnd.{TermEnd}

-- a term that was read, and one that was not
abbrev pub Read : number.Row → ℕ → ℕ → Result TermEnd TextRefusal
Read j next n = Ok (record { row = j; next = next; used = n })

abbrev pub Refused : Refusal → ℕ → Result TermEnd TextRefusal
Refused w p = Err (record { refusal = w; place = p })

-- an answer that refuses says so
pub says_no : (cells slots : List ℕ) (limit : ℕ) (e : TextRefusal) → Says cells slots limit (Err e) (refused (refusals.number e.refusal) e.place)
says_no cells slots limit e = (e, refl, refl, refl)

-- an outcome that is known
pub says_by : (cells slots : List ℕ) (limit : ℕ) (r : Result TermEnd TextRefusal) {o v : Outcome ℕ} → o ≡ v → Says cells slots limit r v → Says cells slots limit r o
says_by cells slots limit r e h = subst (Says cells slots limit r) (sym e) h

-- an answer that is known
pub says_is : (cells slots : List ℕ) (limit : ℕ) {r s : Result TermEnd TextRefusal} (o : Outcome ℕ) → r ≡ s → Says cells slots limit s o → Says cells slots limit r o
says_is cells slots limit {r} {s} o e h = subst (λ (x : Result TermEnd TextRefusal). Says cells slots limit x o) (sym e) h

-- so many rows
says_rows : (cells slots : List ℕ) (limit j next n : ℕ) (rows : List Row) → length rows ≡ n → rows ≡ rows_below cells n → Ready cells slots n limit → Says cells slots limit (Read (as_row j) next n) (good j next rows)
says_rows cells slots limit j next n rows e f h =
    (ap (Read (as_row j) next) (sym e), f ∙ ap (rows_below cells) (sym e), subst (λ m. Ready cells slots m limit) (sym e) h)

-- the row of fields with the children js
abbrev pub row_with : RowFields → List ℕ → Row
row_with f js = row_of f.symbol (scalar (kind_of f.scalar) (payload_of f.scalar)) js

module _ (cells slots : List ℕ) (n limit : ℕ) (ready : Ready cells slots n limit) (arity : ℕ → ℕ) (at next : ℕ) (f : RowFields) (count : ℕ) (js : List ℕ) (held : Held js count f.places) where
  pub end_wrong : (cs ss : List ℕ) (a : ℕ) → a ≡ arity f.symbol → (count ≡ a → ⊥) → Says cs ss limit (Refused TermChildren at) (end_term arity limit at (row_with f js) next (rows_below cells n))
  unfolding end_term
  end_wrong cs ss a e h =
      let g : eqb (length js) (arity f.symbol) ≡ false = ne_eqb _ _ (λ q. h (held.number ∙ q ∙ sym e)) in
      says_by cs ss limit (Refused TermChildren at) (ap (λ b. cond b (place_row limit at (row_with f js) next (rows_below cells n) (find_row (row_with f js) (rows_below cells n))) (refused 66 at)) g) (says_no cs ss limit (record { refusal = TermChildren; place = at }))

  -- the number of children is right, and the builder was asked
  module _ (few : arity f.symbol ≤ max_children) (a : ℕ) (e : a ≡ arity f.symbol) (right : count ≡ a) (kept : Kept (fields_row f)) (answer : Placed) (cs ss : List ℕ) (did : Did (find_or_add cells slots n limit (fields_row f)) answer cs ss) where
    all : used (numbers_of f.places) ≡ js
    all = ap used held.first ∙ used_places max_children js (omega (arith, held.number)) (all_used js held.rows)

    row_is : fields_row f ≡ row_with f js
    row_is = λ i. record { symbol = f.symbol; kind = kind_of f.scalar; payload = payload_of f.scalar; children = all i }

    as_many : length (rows_below cells n) ≡ n
    as_many = length_tab n (row_in cells)

    -- the definition, by what a plain scan finds
    ends : {o : Option ℕ} → find_row (fields_row f) (rows_below cells n) ≡ o → end_term arity limit at (row_with f js) next (rows_below cells n) ≡ place_row limit at (fields_row f) next (rows_below cells n) o
    unfolding end_term
    ends {o} q =
        let g : eqb (length js) (arity f.symbol) ≡ true = eq-eqb _ _ (sym held.number ∙ right ∙ e) in
        ap (λ b. cond b (place_row limit at (row_with f js) next (rows_below cells n) (find_row (row_with f js) (rows_below cells n))) (refused 66 at)) g
        ∙ ap (λ r. place_row limit at r next (rows_below cells n) (find_row r (rows_below cells n))) (sym row_is)
        ∙ ap (place_row limit at (fields_row f) next (rows_below cells n)) q

    -- what the builder's answer becomes
    abbrev part_after : Placed → Result TermEnd TextRefusal
    part_after (Known i) = Read i next n
    part_after (Added i) = Read i next (n + 1)
    part_after Full = Refused TextRows at

    room_by : (b : Bool) → ltb n limit ≡ b → find_row (fields_row f) (rows_below cells n) ≡ none
        → end_term arity limit at (row_with f js) next (rows_below cells n) ≡ cond b (good (length (rows_below cells n)) next (rows_below cells n ++ fields_row f ∷ [])) (refused 67 at)
    room_by b e u = ends u ∙ ap (λ c. cond c (good (length (rows_below cells n)) next (rows_below cells n ++ fields_row f ∷ [])) (refused 67 at)) (ap (λ m. ltb m limit) as_many ∙ e)

    answered : {x : Placed} → Put cells slots cs ss n limit (fields_row f) x → Says cs ss limit (part_after x) (end_term arity limit at (row_with f js) next (rows_below cells n))
    answered (was i u c d) =
        says_by cs ss limit (Read i next n) (ends u)
        (says_rows cs ss limit i.0 next n (rows_below cells n) as_many (ap (λ l. rows_below l n) (sym c)) (subst (λ l. Ready l ss n limit) (sym c) (subst (λ s. Ready cells s n limit) (sym d) ready)))
    answered (is i p u l m d) =
        says_by cs ss limit (Read i next (n + 1)) (room_by true (lt-ltb n limit l) u ∙ ap (λ k. good k next (rows_below cells n ++ fields_row f ∷ [])) (as_many ∙ sym p))
        (says_rows cs ss limit i.0 next (n + 1) (rows_below cells n ++ fields_row f ∷ []) (omega (arith, length-append (rows_below cells n) (fields_row f ∷ []), as_many)) (sym m) d)
    answered (no_room u l) = says_by cs ss limit (Refused TextRows at) (room_by false (le-ltb n limit l) u) (says_no cs ss limit (record { refusal = TextRows; place = at }))

    told : {x : Placed} → answer ≡ x → Says cs ss limit (part_after x) (end_term arity limit at (row_with f js) next (rows_below cells n))
    told q = subst (λ x. Says cs ss limit (part_after x) (end_term arity limit at (row_with f js) next (rows_below cells n))) q (answered (puts cells slots n limit ready (fields_row f) kept cs ss answer did))

    pub end_known : (i : number.Row) → answer ≡ Known i → Says cs ss limit (Read i next n) (end_term arity limit at (row_with f js) next (rows_below cells n))
    end_known i q = told q

    pub end_added : (i : number.Row) → answer ≡ Added i → Says cs ss limit (Read i next (n + 1)) (end_term arity limit at (row_with f js) next (rows_below cells n))
    end_added i q = told q

    pub end_full : answer ≡ Full → (cs' ss' : List ℕ) → Says cs' ss' limit (Refused TextRows at) (end_term arity limit at (row_with f js) next (rows_below cells n))
    end_full q cs' ss' = go (puts cells slots n limit ready (fields_row f) kept cs ss answer did) q
      where
        go : {x : Placed} → Put cells slots cs ss n limit (fields_row f) x → x ≡ Full → Says cs' ss' limit (Refused TextRows at) (end_term arity limit at (row_with f js) next (rows_below cells n))
        go (was i u c d) z = let y : ◌≡◌ {A = ℕ} 0 1 = cc in absurd (omega arith)
        go (is i p u l m d) z = let y : ◌≡◌ {A = ℕ} 0 1 = cc in absurd (omega arith)
        go (no_room u l) z = says_by cs' ss' limit (Refused TextRows at) (room_by false (le-ltb n limit l) u) (says_no cs' ss' limit (record { refusal = TextRows; place = at }))
