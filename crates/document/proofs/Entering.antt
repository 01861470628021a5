-- Rows entered into the index one after the other: a row is found exactly where an earlier one equals it. Assumes nothing.
use Rattle.std.specs.Prelude.{Some, None}
use mathlib.Core.Path.{◌≡◌, refl, sym, ap, ◌∙◌, subst}
use mathlib.Core.Bool.{Bool, true, false, not, cond}
use mathlib.Core.Logic.{⊎_elim}
use mathlib.Core.List.{List}
use Prim.Native.Nat.{ℕ, ◌+◌, ◌*◌, ◌%◌, ◌<◌, ◌≤◌}
use native.Mathlib.Nat.{mod-lt}
use native.Mathlib.Numerals.{add-one}
use native.Mathlib.Omega.{arith}
use borrow.Author.Rules.{rules}
use mir.Syntax.{w64}
use mir.Val.{Fits}
use lib.Dec.{T}
use lib.ListN.{length, set, replicate}
use Rattle.model.specs.Lists.{all_below}
use Rattle.model.specs.Table.{row_at, scalar?}
use Rattle.model.specs.Build.{eq_row}
use Rattle.model.proofs.Members.{T_true}
use Rattle.model.proofs.Below.{Passed, passed_none, passed_more, passed_all, stopped, at, fails}
use Rattle.model.proofs.Build.{eq_row→eq}
use Rattle.automaton.proofs.Parts.{all_of}
use Rattle.document.specs.declared.rows.Row as number
use Rattle.document.specs.declared.index.Probed.{Probed}
use Rattle.document.specs.declared.index.Probed.TheVariants.{Found, Free, Crowded}
use Rattle.document.specs.declared.fields.RowFields.{RowFields}
use Rattle.document.specs.Rows.{row_in, decode_rows, encode_row}
use Rattle.document.specs.Hash.{row_hash}
use Rattle.document.specs.Scalars.{kind_of, payload_of, decode_scalar, scalar_at}
use Rattle.document.specs.Fields.{fields_row, or_bare, fields_in}
use Rattle.document.specs.Index.{slot_count, start_slot, probe, Indexed}
use Rattle.document.specs.Check.{fresh?}
use Rattle.document.specs.Marks.{Counted, same_as, start_of}
use Rattle.document.proofs.Places.{row_at_lem, rows_length}
use Rattle.document.proofs.Scalars.{there_and_back}
use Rattle.document.proofs.Probing.{indexed_none, Opens, Answers, known, free, answers, indexed_more}
use Rattle.document.proofs.Whole.{order, not_fresh}

-- a row by value is the row, where its kind and payload are a scalar
pub fields_row_lem : (cells : List ℕ) (i : ℕ) → T (scalar? (row_in cells i).kind (row_in cells i).payload) → fields_row (fields_in cells i) ≡ row_in cells i
unfolding fields_in
fields_row_lem cells i t =
    let b = there_and_back (row_in cells i).kind (row_in cells i).payload t in
    λ x. record { symbol = (row_in cells i).symbol; kind = (ap kind_of scalar ∙ b.kind) x; payload = (ap payload_of scalar ∙ b.payload) x; children = (row_in cells i).children }
  where
    scalar : or_bare (decode_scalar (row_in cells i).kind (row_in cells i).payload) ≡ scalar_at (row_in cells i).kind (row_in cells i).payload
    scalar = ap (λ b. or_bare (cond b (Some (scalar_at (row_in cells i).kind (row_in cells i).payload)) None)) ((T_true (scalar? (row_in cells i).kind (row_in cells i).payload)).0 t)

-- so a probe for the row by value is one for the row
pub probed_row : (cells slots : List ℕ) (j : ℕ) (f : RowFields) (ten : List ℕ) (s : ℕ) (p : Probed) → T (scalar? (row_in cells j).kind (row_in cells j).payload) → f ≡ fields_in cells j → ten ≡ encode_row (fields_row f) → s ≡ row_hash ten % slot_count → p ≡ probe slots (λ i. eq_row (fields_row f) (row_in cells i)) s → p ≡ probe slots (same_as cells j) (start_of cells j)
unfolding start_slot
probed_row cells slots j f ten s p t e g h q =
    q
    ∙ ap (λ x. probe slots (λ i. eq_row (fields_row f) (row_in cells i)) x) (h ∙ ap (λ x. row_hash x % slot_count) g)
    ∙ ap (λ r. probe slots (λ i. eq_row r (row_in cells i)) (start_slot r)) (ap fields_row e ∙ fields_row_lem cells j t)

-- what a probe answers
module _ (slots : List ℕ) (n : ℕ) (same? : ℕ → Bool) (s : ℕ) where
  when_found : {q : Probed} → Answers slots n same? s q → (x : number.Row) → q ≡ Found x → (i : ℕ) × (i < n) × (same? i ≡ true)
  when_found (known i l t e) x h = (i, l, t)
  when_found (free t f e o) x h = let z : ◌≡◌ {A = ℕ} 0 1 = cc in absurd (omega arith)

  when_free : {q : Probed} → Answers slots n same? s q → (u : ℕ) → q ≡ Free u → ((i : ℕ) → i < n → same? i ≡ false) × Opens slots s u
  when_free (known i l t e) u h = let z : ◌≡◌ {A = ℕ} 0 1 = cc in absurd (omega arith)
  when_free (free t f e o) u h = let q : t ≡ u = cc in (f, subst (Opens slots s) q o)

  when_crowded : {q : Probed} → Answers slots n same? s q → q ≡ Crowded → ⊥
  when_crowded (known i l t e) h = let z : ◌≡◌ {A = ℕ} 0 1 = cc in omega arith
  when_crowded (free t f e o) h = let z : ◌≡◌ {A = ℕ} 0 1 = cc in omega arith

-- at the head of the loop over the rows: those below j equal no earlier row, and the slots index them
pub record Entered (cells : List ℕ) (n : ℕ) (slots : List ℕ) (j : ℕ) : Type 0 where
  pub passed : Passed (fresh? (decode_rows cells)) (length (decode_rows cells)) n j
  pub index : Indexed slots j (start_of cells)

module _ (cells : List ℕ) (n : ℕ) (c : Counted cells n) where
  pub entered_none : Entered cells n (replicate slot_count 0) 0
  entered_none =
      record {
        passed = passed_none (fresh? (decode_rows cells)) (length (decode_rows cells)) n (c.rows ∙ sym (rows_length cells));
        index = indexed_none (start_of cells);
      }

  pub entered_all : (slots : List ℕ) (j : ℕ) → Entered cells n slots j → n ≤ j → true ≡ all_below (length (decode_rows cells)) (fresh? (decode_rows cells))
  entered_all slots j h l = passed_all (fresh? (decode_rows cells)) (length (decode_rows cells)) n j h.passed l

  module _ (slots : List ℕ) (j : ℕ) (h : Entered cells n slots j) (l : j < n) where
    row_here : (i : ℕ) → i < n → row_at (decode_rows cells) i ≡ row_in cells i
    row_here i m = row_at_lem cells i (rw (← c.rows) m)

    one_below : (i k : ℕ) → i < k → k < j → row_in cells k ≡ row_in cells i → ⊥
    one_below i k a b e =
        not_fresh (decode_rows cells) i k a (at (fresh? (decode_rows cells)) j k h.passed.passed b)
        (row_here k (omega arith) ∙ e ∙ sym (row_here i (omega arith)))

    same_row : (i : ℕ) → same_as cells j i ≡ true → row_in cells j ≡ row_in cells i
    same_row i e = eq_row→eq (row_in cells j) (row_in cells i) ((T_true (same_as cells j i)).1 e)

    one : (i k : ℕ) → i < j → k < j → same_as cells j i ≡ true → same_as cells j k ≡ true → i ≡ k
    one i k a b e f =
        ⊎_elim (λ m. absurd (one_below i k m b (sym (same_row k f) ∙ same_row i e)))
        (⊎_elim (λ m. m) (λ m. absurd (one_below k i m a (sym (same_row i e) ∙ same_row k f)))) (order i k)

    says : Answers slots j (same_as cells j) (start_of cells j) (probe slots (same_as cells j) (start_of cells j))
    says =
        answers slots j (start_of cells) (same_as cells j) (start_of cells j) h.index
        (λ i m e. ap start_slot (sym (same_row i e))) (omega (arith, c.few)) one

    told : (p : Probed) → p ≡ probe slots (same_as cells j) (start_of cells j) → Answers slots j (same_as cells j) (start_of cells j) p
    told p e = subst (Answers slots j (same_as cells j) (start_of cells j)) (sym e) says

    -- the test of row j in terms of the rows by index
    fresh_when : ((i : ℕ) → i < j → same_as cells j i ≡ false) → fresh? (decode_rows cells) j ≡ true
    unfolding fresh?
    fresh_when f =
        all_of j (λ i. not (eq_row (row_at (decode_rows cells) j) (row_at (decode_rows cells) i)))
        (λ i m. ap (λ b. not b) (ap (λ r. eq_row r (row_at (decode_rows cells) i)) (row_here j l) ∙ ap (λ r. eq_row (row_in cells j) r) (row_here i (omega arith)) ∙ f i m))

    pub entered_found : (p : Probed) (x : number.Row) → p ≡ probe slots (same_as cells j) (start_of cells j) → p ≡ Found x → false ≡ all_below (length (decode_rows cells)) (fresh? (decode_rows cells))
    unfolding fresh?
    entered_found p x e f =
        let (i, m, t) = when_found slots j (same_as cells j) (start_of cells j) (told p e) x f in
        stopped (fresh? (decode_rows cells)) (length (decode_rows cells)) n j false h.passed l
        (sym (fails (λ i. not (eq_row (row_at (decode_rows cells) j) (row_at (decode_rows cells) i))) j i m
        (ap (λ b. not b) (ap (λ r. eq_row r (row_at (decode_rows cells) i)) (row_here j l) ∙ ap (λ r. eq_row (row_in cells j) r) (row_here i (omega arith)) ∙ t))))
        refl

    pub entered_crowded : (p : Probed) → p ≡ probe slots (same_as cells j) (start_of cells j) → p ≡ Crowded → false ≡ all_below (length (decode_rows cells)) (fresh? (decode_rows cells))
    entered_crowded p e f = absurd (when_crowded slots j (same_as cells j) (start_of cells j) (told p e) f)

    -- the empty slot is one of them
    pub entered_slot : (p : Probed) (t : ℕ) → p ≡ probe slots (same_as cells j) (start_of cells j) → p ≡ Free t → t < slot_count
    entered_slot p t e f =
        let o = (when_free slots j (same_as cells j) (start_of cells j) (told p e) t f).1 in
        rw o.here (mod-lt (start_of cells j + o.steps) {m = slot_count} (omega arith))

    -- as is its place in bytes
    pub entered_place : (p : Probed) (t : ℕ) → p ≡ probe slots (same_as cells j) (start_of cells j) → p ≡ Free t → Fits w64 (t * 2)
    entered_place p t e f = record { fits = omega (arith, entered_slot p t e f) }

    pub entered_more : (p : Probed) (t v : ℕ) → p ≡ probe slots (same_as cells j) (start_of cells j) → p ≡ Free t → v ≡ j + 1 → Entered cells n (set slots t v) (j + 1)
    entered_more p t v e f q =
        let (none-same, o) = when_free slots j (same_as cells j) (start_of cells j) (told p e) t f in
        record {
          passed = passed_more (fresh? (decode_rows cells)) (length (decode_rows cells)) n j true h.passed l (sym (fresh_when none-same)) refl;
          index = rw (q, add-one) (indexed_more slots j (start_of cells) t h.index o);
        }

pub ruleset entering = (probed_row, entered_none, entered_all, entered_found, entered_crowded, entered_slot, entered_place, entered_more, rules)
