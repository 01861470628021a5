-- Laws for the functions that put a state's row into the table. Assumes nothing.
use mathlib.Core.Path.{◌≡◌, refl, sym, ap, ◌∙◌, subst}
use mathlib.Core.Bool.{Bool, true, false, cond}
use mathlib.Core.List.{List, [], ◌∷◌}
use Prim.Native.Nat.{ℕ, zero, suc, ◌+◌, ◌*◌, ◌<◌, ◌≤◌}
use native.Mathlib.Omega.{arith}
use borrow.Author.Rules.{rules}
use borrow.Author.Tests.{lt-ltb, le-ltb}
use lib.ListN.{length, get_or, set}
use Rattle.model.specs.Limits.{max_children, max_states, max_rows, unused}
use Rattle.model.specs.Lists.{tab}
use Rattle.model.specs.Space.{put_at}
use Rattle.model.specs.Automaton.{Rule}
use Rattle.model.specs.Order.{place}
use Rattle.model.specs.Table.{Row}
use Rattle.model.specs.Build.{eq_row}
use Rattle.document.specs.declared.rows.Row as number
use Rattle.document.specs.declared.builder.Placed.{Placed}
use Rattle.document.specs.declared.builder.Placed.TheVariants.{Known, Added, Full}
use Rattle.document.specs.Rows.{row_cells, used, row_in, encode_row, Kept}
use Rattle.document.specs.declared.index.Probed.{Probed}
use Rattle.document.specs.declared.index.Probed.TheVariants.{Found, Free, Crowded}
use Rattle.document.specs.Index.{start_slot, probe}
use Rattle.document.specs.Fields.{as_row, numbers_of}
use Rattle.document.specs.Builder.{room_for?, Placing, place_at, find_or_add, Did}
use Rattle.document.proofs.Placement.{room}
use Rattle.emptiness.specs.Building.{memo_place, rule_row, noted, remembered, counted, RowPut}

pub place_memo : (memo : List ℕ) (r : Rule) (k c x : ℕ) → c ≡ place r k → x ≡ get_or memo c unused → x ≡ memo_place memo r k
unfolding memo_place
place_memo memo r k c x e f = f ∙ ap (λ z. get_or memo z unused) e

-- an element that is read, with any default
pub got : (l : List ℕ) (d e at q : ℕ) → at < length l → at ≡ q → get_or l at d ≡ get_or l q e
got l d e at q h g = go l at h ∙ ap (λ k. get_or l k e) g
  where
    go : (l : List ℕ) (k : ℕ) → k < length l → get_or l k d ≡ get_or l k e
    go [] k h = let z : ⊥ = omega arith in absurd z
    go (x ∷ l) zero h = refl
    go (x ∷ l) (suc k) h = go l k (omega arith)

pub noted_in : (memo : List ℕ) (at q x : ℕ) → at ≡ q → at < 256 → set memo at x ≡ noted memo q x
unfolding noted
noted_in memo at q x e h = rw (lt-ltb q max_states (omega arith), e)

pub noted_past : (memo : List ℕ) (at q x : ℕ) → at ≡ q → 256 ≤ at → memo ≡ noted memo q x
unfolding noted
noted_past memo at q x e h = rw (le-ltb q max_states (omega arith))

pub row_fields : (memo : List ℕ) (ps : List number.Row) (r : Rule) (f : ℕ) → f ≡ r.symbol → numbers_of ps ≡ tab max_children (memo_place memo r) → ◌≡◌ {A = Row} (record { symbol = f; kind = 0; payload = 0; children = used (numbers_of ps) }) (rule_row memo r)
row_fields memo ps r f ef ep = λ i. record { symbol = ef i; kind = 0; payload = 0; children = used (ep i) }

-- the row was there, was added, or found no room
module _ (r : Rule) (limit q : ℕ) (cells slots memo : List ℕ) (n : ℕ) (own : Row) (eo : own ≡ rule_row memo r) (a : Placed) (cells' slots' : List ℕ) (D : Did (find_or_add cells slots n limit own) a cells' slots') (K : Kept own) where
  given : (b : Placed) (memo' : List ℕ) (n' : ℕ) → a ≡ b → memo' ≡ remembered memo q b → n' ≡ counted n b → RowPut r limit q cells slots memo n cells' slots' memo' n'
  given b memo' n' e em en =
      record {
        cells_are = D.cells ∙ ap (λ (o : Row). (find_or_add cells slots n limit o).cells) eo;
        slots_are = D.slots ∙ ap (λ (o : Row). (find_or_add cells slots n limit o).slots) eo;
        memo_is = em ∙ ap (remembered memo q) (sym e ∙ D.answer ∙ ap (λ (o : Row). (find_or_add cells slots n limit o).answer) eo);
        count = en ∙ ap (counted n) (sym e ∙ D.answer ∙ ap (λ (o : Row). (find_or_add cells slots n limit o).answer) eo);
        kept = subst Kept eo K;
      }

  pub put_known : (i : number.Row) (memo' : List ℕ) → a ≡ Known i → memo' ≡ noted memo q i.0 → RowPut r limit q cells slots memo n cells' slots' memo' n
  put_known i memo' e em = given (Known i) memo' n e em refl

  pub put_added : (i : number.Row) (memo' : List ℕ) (n' : ℕ) → a ≡ Added i → memo' ≡ noted memo q i.0 → n' ≡ n + 1 → RowPut r limit q cells slots memo n cells' slots' memo' n'
  put_added i memo' n' e em en = given (Added i) memo' n' e em en

  pub put_full : a ≡ Full → RowPut r limit q cells slots memo n cells' slots' memo n
  put_full e = given Full memo n e refl refl

few_by : (cells slots : List ℕ) (n limit : ℕ) (r : Row) (b : Bool) (t : ℕ) (i : number.Row) → b ≡ room_for? cells n limit → (cond {A = Placing} b (record { answer = Added (as_row n); cells = put_at cells (n * row_cells) (encode_row r); slots = set slots t (n + 1) }) (record { answer = Full; cells = cells; slots = slots })).answer ≡ Added i → n < max_rows
few_by cells slots n limit r true t i eb e = (room cells n limit true eb refl).few
few_by cells slots n limit r false t i eb e = let z : ◌≡◌ {A = ℕ} 0 1 = cc in let y : ⊥ = omega arith in absurd y

few_at : (cells slots : List ℕ) (n limit : ℕ) (r : Row) (q : Probed) (i : number.Row) → (place_at cells slots n limit r q).answer ≡ Added i → n < max_rows
few_at cells slots n limit r (Found j) i e = let z : ◌≡◌ {A = ℕ} 0 1 = cc in let y : ⊥ = omega arith in absurd y
few_at cells slots n limit r (Free t) i e = few_by cells slots n limit r (room_for? cells n limit) t i refl e
few_at cells slots n limit r Crowded i e = let z : ◌≡◌ {A = ℕ} 0 1 = cc in let y : ⊥ = omega arith in absurd y

-- a row is added below the limit of a table only
pub added_few : (cells slots : List ℕ) (n limit : ℕ) (r : Row) (i : number.Row) (a : Placed) (cells' slots' : List ℕ) → Did (find_or_add cells slots n limit r) a cells' slots' → a ≡ Added i → n < max_rows
unfolding find_or_add
added_few cells slots n limit r i a cells' slots' D e = few_at cells slots n limit r (probe slots (λ j. eq_row r (row_in cells j)) (start_slot r)) i (sym D.answer ∙ e)

pub ruleset puts = (place_memo, got, noted_in, noted_past, row_fields, put_known, put_added, put_full, rules)
