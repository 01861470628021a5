-- The children of a term so far, and the argument list that is still to be read: what the list reader knows at its loop's head. Assumes nothing.
use mathlib.Core.Path.{◌≡◌, refl, sym, ap, subst, ◌∙◌}
use mathlib.Core.Bool.{Bool, true, false, cond}
use mathlib.Core.Logic.{⊎_elim}
use mathlib.Core.List.Memᴰ.{append_cases}
use mathlib.Core.List.Memᴰ.{eq_of_singleton}
use mathlib.Core.List.Memᴰ.{not-nil}
use mathlib.Core.List.{List, [], ◌∷◌, ◌++◌, append_assoc}
use Prim.Native.Nat.{ℕ, zero, suc, ◌+◌, ◌-◌, ◌<◌, ◌≤◌}
use native.Mathlib.Omega.{arith}
use borrow.Author.Tests.{eq-eqb, ne_eqb, ltb-false}
use lib.Dec.{eqb, ltb}
use lib.ListN.{length, get_or, set, length-append}
use lib.Seq.{set_out}
use Rattle.model.specs.Limits.{max_children, unused}
use Rattle.model.specs.Lists.{tab}
use Rattle.model.specs.Table.{Row}
use Rattle.model.proofs.Tab.{length_tab}
use Rattle.document.specs.declared.rows.Row as number
use Rattle.document.specs.Rows.{row_in, rows_below, places_of}
use Rattle.document.specs.declared.fields.RowFields.{RowFields}
use Rattle.document.specs.declared.scalar.Scalar.{Scalar}
use Rattle.document.specs.declared.scalar.Scalar.TheVariants.{Bare}
use Rattle.document.specs.Scalars.{kind_of, payload_of}
use Rattle.document.specs.Fields.{as_row, as_rows, numbers_of}
use Rattle.document.proofs.Numbers.{numbers_set}
use Rattle.term.specs.Scan.{byte_at, scalar}
use Rattle.term.specs.Grammar.{Outcome, good, refused, row_of, end_term, with_first, read_args}
use Rattle.term.specs.State.{Ready, childless, with_child, Held, Says}
use Rattle.std.specs.Prelude.{Result, Ok, Err}
use Rattle.base.specs.Refusals as refusals
use Rattle.base.specs.declared.refusal.TextRefusal.{TextRefusal}
use Rattle.term.specs.declared.reader.TermEnd.{TermEnd}
use Rattle.term.proofs.Ending.{row_with}

-- one more child goes to the place of its number, among any number of places
one_more : (d j n : ℕ) (js : List ℕ) → tab n (λ k. get_or (js ++ j ∷ []) k d) ≡ set (tab n (λ k. get_or js k d)) (length js) j
one_more d j zero js = refl
one_more d j (suc n) [] = refl
one_more d j (suc n) (x ∷ js) = ap (x ∷◌) (one_more d j n js)

pub held_none : Held [] 0 (as_rows (places_of []))
held_none = record { number = refl; first = refl; rows = λ j h. absurd (not-nil h) }

with_child_lem : (f : RowFields) (k : ℕ) (j : number.Row) → length (numbers_of f.places) ≡ max_children → numbers_of (with_child f k j).places ≡ set (numbers_of f.places) k j.0
with_child_lem f k j e = go (ltb k max_children) refl
  where
    go : (b : Bool) → ltb k max_children ≡ b → numbers_of (cond b (set f.places k j) f.places) ≡ set (numbers_of f.places) k j.0
    go true t = numbers_set f.places k j
    go false t = sym (set_out (numbers_of f.places) k j.0 (let h = ltb-false k max_children t in omega arith))

pub held_more : (js : List ℕ) (count : ℕ) (j : number.Row) (f : RowFields) → Held js count f.places → j.0 < unused → Held (js ++ j.0 ∷ []) (count + 1) (with_child f count j).places
held_more js count j f h l =
    record {
      number = ap (◌+ 1) h.number ∙ sym (length-append js (j.0 ∷ []));
      first = with_child_lem f count j (ap length h.first ∙ length_tab max_children (λ k. get_or js k unused)) ∙ (λ i. set (h.first i) (h.number i) j.0) ∙ sym (one_more unused j.0 max_children js);
      rows = λ k m. ⊎_elim (λ n. h.rows k n) (λ n. let e = eq_of_singleton n in rw e l) (append_cases js m);
    }

-- the end of a term without children
pub says_childless : (cells slots : List ℕ) (limit : ℕ) (r : Result TermEnd TextRefusal) (arity : ℕ → ℕ) (at next : ℕ) (rows : List Row) (s : ℕ) (v : Scalar) (f : RowFields) → f ≡ childless s v
    → ((js : List ℕ) → Held js 0 f.places → Says cells slots limit r (end_term arity limit at (row_with f js) next rows)) → Says cells slots limit r (end_term arity limit at (row_of s (scalar (kind_of v) (payload_of v)) []) next rows)
says_childless cells slots limit r arity at next rows s v f e h =
    subst (λ g. (js : List ℕ) → Held js 0 g.places → Says cells slots limit r (end_term arity limit at (row_with g js) next rows)) e h [] held_none

-- the row of fields whose symbol is s and whose scalar is bare
pub says_bare : (cells slots : List ℕ) (limit : ℕ) (r : Result TermEnd TextRefusal) (arity : ℕ → ℕ) (at next : ℕ) (rows : List Row) (js : List ℕ) (s : ℕ) (f : RowFields) → f.symbol ≡ s → f.scalar ≡ Bare
    → Says cells slots limit r (end_term arity limit at (row_with f js) next rows) → Says cells slots limit r (end_term arity limit at (row_of s (scalar 0 0) js) next rows)
says_bare cells slots limit r arity at next rows js s f a b h =
    subst (λ v. Says cells slots limit r (end_term arity limit at v next rows)) (λ i. row_of (a i) (scalar (kind_of (b i)) (payload_of (b i))) js) h

-- children in front of those of an outcome
abbrev pub before : List ℕ → Outcome (List ℕ) → Outcome (List ℕ)
before js (good ks next rows) = good (js ++ ks) next rows
before js (refused w p) = refused w p

before_first : (js : List ℕ) (j : ℕ) (o : Outcome (List ℕ)) → before js (with_first j o) ≡ before (js ++ j ∷ []) o
before_first js j (good ks next rows) = ap (λ l. good l next rows) (sym (append_assoc js (j ∷ []) ks))
before_first js j (refused w p) = refl

-- one turn, f more being allowed
module _ (term : ℕ → List Row → Outcome ℕ) (t : List ℕ) (at : ℕ) (rows : List Row) (f : ℕ) where
  turn_refused : (w p : ℕ) → term at rows ≡ refused w p → read_args term t (suc f) at rows ≡ refused w p
  unfolding read_args
  turn_refused w p e = rw (read_args, e)

  module _ (j next : ℕ) (more : List Row) (e : term at rows ≡ good j next more) where
    pub turn_comma : byte_at t next ≡ 44 → read_args term t (suc f) at rows ≡ with_first j (read_args term t f (next + 1) more)
    unfolding read_args
    turn_comma b = let g : eqb (byte_at t next) 44 ≡ true = eq-eqb _ _ b in rw (read_args, e, g)

    pub turn_end : (b : Bool) → (byte_at t next ≡ 44 → ⊥) → eqb (byte_at t next) 41 ≡ b → read_args term t (suc f) at rows ≡ cond b (good (j ∷ []) (next + 1) more) (refused 63 next)
    unfolding read_args
    turn_end b n q = let g : eqb (byte_at t next) 44 ≡ false = ne_eqb _ _ n in rw (read_args, e, g, q)

-- The argument list from place `start` on, after the rows `rows₀`, is the children so far before what is still to be read from place `at` on.
pub record Listing (term : ℕ → List Row → Outcome ℕ) (t : List ℕ) (start : ℕ) (rows₀ : List Row) (limit : ℕ) (cells slots : List ℕ) (at known count : ℕ) (places : List number.Row) : Type 0 where
  pub so_far : List ℕ
  pub turns : ℕ
  pub enough : length t ≤ at + turns
  pub few : count ≤ at
  pub held : Held so_far count places
  pub ready : Ready cells slots known limit
  pub same : before so_far (read_args term t turns at (rows_below cells known)) ≡ read_args term t (length t - start) start rows₀

-- a term that was read: it began inside the text, went on, and its row is among the rows
abbrev pub Ahead : List ℕ → (ℕ → List Row → Outcome ℕ) → Type 0
Ahead t term = (at : ℕ) (rows : List Row) (j next : ℕ) (more : List Row) → term at rows ≡ good j next more → (at < length t) × (at < next) × (j < length more)

-- past the end there is none
abbrev pub Ends : List ℕ → (ℕ → List Row → Outcome ℕ) → Type 0
Ends t term = (at : ℕ) (rows : List Row) → length t ≤ at → term at rows ≡ refused 63 at

-- an answer that says what was read
pub said : (cells slots : List ℕ) (limit : ℕ) (r : Result TermEnd TextRefusal) (o : Outcome ℕ) → Says cells slots limit r o → (t : TermEnd) → r ≡ Ok t → (o ≡ good t.row.0 t.next (rows_below cells t.used)) × Ready cells slots t.used limit
said cells slots limit r (good k p rows) h t q =
    let e : t ≡ record { row = as_row k; next = p; used = length rows } = cc (h.0, q) in
    (sym ((λ i. good (e i).row.0 (e i).next (rows_below cells (e i).used)) ∙ ap (good k p) (sym h.1)), subst (λ m. Ready cells slots m limit) (sym (ap (λ (u : TermEnd). u.used) e)) h.2)
said cells slots limit r (refused w p) h t q = cc (h.1, q)

pub said_no : (cells slots : List ℕ) (limit : ℕ) (r : Result TermEnd TextRefusal) (o : Outcome ℕ) → Says cells slots limit r o → (e : TextRefusal) → r ≡ Err e → o ≡ refused (refusals.number e.refusal) e.place
said_no cells slots limit r (good k next rows) h e q = cc (h.0, q)
said_no cells slots limit r (refused x y) h e q =
    let s : h.0 ≡ e = cc (h.1, q) in
    cc (h.2, h.3)

module _ (term : ℕ → List Row → Outcome ℕ) (t : List ℕ) (start : ℕ) (rows₀ : List Row) (limit : ℕ) where
  pub list_start : (cells slots : List ℕ) (known s : ℕ) (v : Scalar) (f : RowFields) → f ≡ childless s v → rows₀ ≡ rows_below cells known → Ready cells slots known limit → Listing term t start rows₀ limit cells slots start known 0 f.places
  list_start cells slots known s v f q e h =
      record {
        so_far = [];
        turns = length t - start;
        enough = omega arith;
        few = omega arith;
        held = subst (λ g. Held [] 0 g.places) (sym q) held_none;
        ready = h;
        same = before_none (read_args term t (length t - start) start (rows_below cells known)) ∙ ap (read_args term t (length t - start) start) (sym e);
      }
    where
      before_none : (o : Outcome (List ℕ)) → before [] o ≡ o
      before_none (good ks next rows) = refl
      before_none (refused w p) = refl

  module _ (ends : Ends t term) (ahead : Ahead t term) (cells slots : List ℕ) (at known count : ℕ) (f : RowFields) (v : Listing term t start rows₀ limit cells slots at known count f.places) (r : Result TermEnd TextRefusal) (cs ss : List ℕ) (says : Says cs ss limit r (term at (rows_below cells known))) where
    pub list_refused : (x : TextRefusal) → r ≡ Err x → read_args term t (length t - start) start rows₀ ≡ refused (refusals.number x.refusal) x.place
    unfolding read_args
    list_refused x q = go v.turns v.enough v.same
      where
        w : ℕ
        w = refusals.number x.refusal

        p : ℕ
        p = x.place

        e : term at (rows_below cells known) ≡ refused w p
        e = said_no cs ss limit r (term at (rows_below cells known)) says x q

        go : (f : ℕ) → length t ≤ at + f → before v.so_far (read_args term t f at (rows_below cells known)) ≡ read_args term t (length t - start) start rows₀ → read_args term t (length t - start) start rows₀ ≡ refused w p
        go zero l s =
            let h : refused 63 at ≡ refused w p = sym (ends at (rows_below cells known) (omega arith)) ∙ e in
            let a : 63 ≡ w = cc in
            let b : at ≡ p = cc in
            sym s ∙ (λ i. refused (a i) (b i))
        go (suc f) l s = sym s ∙ ap (before v.so_far) (turn_refused term t at (rows_below cells known) f w p e)

    -- a term was read
    module _ (child : TermEnd) (q : r ≡ Ok child) where
      abbrev pub j : number.Row
      j = child.row

      abbrev pub next : ℕ
      next = child.next

      abbrev pub n : ℕ
      n = child.used

      read : term at (rows_below cells known) ≡ good j.0 next (rows_below cs n)
      read = (said cs ss limit r (term at (rows_below cells known)) says child q).0

      pub list_ready : Ready cs ss n limit
      list_ready = (said cs ss limit r (term at (rows_below cells known)) says child q).1

      pub list_ahead : (at < length t) × (at < next) × (count < next)
      list_ahead = let a = ahead at (rows_below cells known) j.0 next (rows_below cs n) read in (a.0, a.1, omega (arith, v.few))

      small : j.0 < unused
      small =
          let a = ahead at (rows_below cells known) j.0 next (rows_below cs n) read in
          omega (arith, a, length_tab n (row_in cs), list_ready.built.few)

      abbrev now_held : List ℕ
      now_held = v.so_far ++ j.0 ∷ []

      pub list_held : (g : RowFields) → g ≡ with_child f count j → Held now_held (count + 1) g.places
      list_held g e = subst (λ h. Held now_held (count + 1) h.places) (sym e) (held_more v.so_far count j f v.held small)

      -- there is a turn for it
      turn : (f : ℕ) × (v.turns ≡ suc f)
      turn = go v.turns v.enough
        where
          go : (f : ℕ) → length t ≤ at + f → (g : ℕ) × (f ≡ suc g)
          go zero l = let a = list_ahead in let z : ⊥ = omega (arith, a) in absurd z
          go (suc f) l = (f, refl)

      one_turn : {o : Outcome (List ℕ)} → read_args term t (suc turn.0) at (rows_below cells known) ≡ o → read_args term t (length t - start) start rows₀ ≡ before v.so_far o
      one_turn e = sym v.same ∙ ap (λ f. before v.so_far (read_args term t f at (rows_below cells known))) turn.1 ∙ ap (before v.so_far) e

      pub list_last : byte_at t next ≡ 41 → read_args term t (length t - start) start rows₀ ≡ good now_held (next + 1) (rows_below cs n)
      list_last b =
          one_turn (turn_end term t at (rows_below cells known) turn.0 j.0 next (rows_below cs n) read true (λ e. omega (arith, b, e)) (eq-eqb _ _ b))

      pub list_other : (byte_at t next ≡ 44 → ⊥) → (byte_at t next ≡ 41 → ⊥) → read_args term t (length t - start) start rows₀ ≡ refused 63 next
      list_other a b =
          one_turn (turn_end term t at (rows_below cells known) turn.0 j.0 next (rows_below cs n) read false a (ne_eqb _ _ b))

      pub list_more : (g : RowFields) → g ≡ with_child f count j → byte_at t next ≡ 44 → Listing term t start rows₀ limit cs ss (next + 1) n (count + 1) g.places
      list_more g e b =
          let a = list_ahead in
          record {
            so_far = now_held;
            turns = turn.0;
            enough = omega (arith, a, v.enough, turn.1);
            few = omega (arith, a);
            held = list_held g e;
            ready = list_ready;
            same = sym (before_first v.so_far j.0 (read_args term t turn.0 (next + 1) (rows_below cs n))) ∙ sym (one_turn (turn_comma term t at (rows_below cells known) turn.0 j.0 next (rows_below cs n) read b));
          }
