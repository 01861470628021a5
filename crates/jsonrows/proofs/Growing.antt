-- Rows are only added: what was read has the rows before it and perhaps more. Assumes nothing.
use mathlib.Core.Path.{◌≡◌, refl, ap, ◌∙◌}
use mathlib.Core.Bool.{Bool, true, false}
use mathlib.Core.List.{List, []}
use mathlib.Core.Option.{Option, none, some}
use Prim.Native.Nat.{ℕ, ◌+◌, ◌≤◌}
use native.Mathlib.Omega.{arith}
use lib.Dec.{eqb}
use lib.ListN.{length}
use Rattle.base.specs.Text.{byte_at, Got, got, fault}
use Rattle.model.specs.Lists.{any, eq_list}
use Rattle.model.specs.Table.{Row}
use Rattle.model.proofs.Tab.{length_tab}
use Rattle.document.specs.Rows.{row_in}
use Rattle.document.specs.declared.scalar.Scalar.TheVariants.{Bare, Name}
use Rattle.jsontext.specs.Strings.{string_at}
use Rattle.jsonrows.specs.Signature.{text_leaf, key_symbol}
use Rattle.jsonrows.specs.Keys.{find_text}
use Rattle.jsonrows.specs.Value.{number_text, value_tree}
use Rattle.jsonrows.specs.Grammar.{Setting, Built, built, Outcome, good, refused, leaf_row, finish, finish_text, close_at, value}
use Rattle.jsonrows.specs.State.{built_in}
use Rattle.jsonrows.specs.Seen.{KeyOutcome, key_good, key_refused, other_key, key_of, key_at}
use Rattle.jsonrows.proofs.Planted.{given_is, Ended, finish_gives}
use Rattle.jsonrows.proofs.AddedRows.{row_onward, tree_onward, onward_longer}
use Rattle.jsonrows.proofs.ReadValues.{value_read}

-- as many as are said to be there
pub as_many : (t cells starts : List ℕ) (used texts : ℕ) → length (built_in t cells starts used texts).rows ≡ used
as_many t cells starts used texts = length_tab used (row_in cells)

pub finish_grows : (limit : ℕ) (r : Row) (next : ℕ) (b : Built) {j n : ℕ} {after : Built} → finish limit r next b ≡ good j n after → length b.rows ≤ length after.rows
finish_grows limit r next b {j} {n} {after} e =
    let h = given_is (Ended limit r next b) j n after e (finish_gives limit r next b) in
    let g = onward_longer (row_onward b.rows r) in
    let q = ap (λ p. length p.0) h.row in
    omega (arith, g, q)

pub close_grows : (limit : ℕ) (t : List ℕ) (mark leaf at : ℕ) (b : Built) {j n : ℕ} {after : Built} → close_at limit t mark leaf at b ≡ good j n after → length b.rows ≤ length after.rows
unfolding close_at
close_grows limit t mark leaf at b {j} {n} {after} e = go (eqb (byte_at t at) mark) e
  where
    go : (c : Bool) → elim c [ true ↦ finish limit (leaf_row leaf Bare) (at + 1) b | false ↦ refused 71 at ] ≡ good j n after → length b.rows ≤ length after.rows
    go true q = finish_grows limit (leaf_row leaf Bare) _ b q
    go false q = let z : ⊥ = cc in absurd z

pub value_grows : (S : Setting) (t : List ℕ) (l at : ℕ) (b : Built) {j n : ℕ} {after : Built} → value l S t at b ≡ good j n after → length b.rows ≤ length after.rows
value_grows S t l at b {j} {n} {after} e =
    let h = value_read S t l at b e in
    let x = (value_tree S.keys h.what b.texts).0 in
    let g = onward_longer (tree_onward x b.rows) in
    let q = ap (λ p. length p.0) h.planted.added in
    omega (arith, g, q)

-- a text's leaf
text_grows : (limit : ℕ) (bs : List ℕ) (next : ℕ) (b : Built) {j n : ℕ} {after : Built} → finish_text limit bs next b ≡ good j n after → length b.rows ≤ length after.rows
unfolding finish_text
text_grows limit bs next b e = finish_grows limit (leaf_row text_leaf (Name (number_text bs b.texts).0)) next (built b.rows (number_text bs b.texts).1) e

-- a key adds the row of its text, or none
module _ (S : Setting) (t : List ℕ) (l : ℕ) (seen : List (List ℕ)) (at : ℕ) (b : Built) (key : List ℕ) (symbol : ℕ) (js : List ℕ) (next : ℕ) (after : Built) where
  abbrev Grows : KeyOutcome → Type 0
  Grows o = o ≡ key_good key symbol js next after → length b.rows ≤ length after.rows

  none_read : (w p : ℕ) → Grows (key_refused w p)
  none_read w p q = let z : ⊥ = cc in absurd z

  as_before : (k : List ℕ) (s : ℕ) (xs : List ℕ) (n : ℕ) → Grows (key_good k s xs n b)
  as_before k s xs n q = let z : b ≡ after = cc in let g = ap (λ (y : Built). length y.rows) z in omega (arith, g)

  other_read : (k : List ℕ) (n : ℕ) (o : Outcome) → finish_text S.limit k n b ≡ o → Grows (other_key k o)
  other_read k n (good j m x) e q = let z : x ≡ after = cc in text_grows S.limit k n b (e ∙ ap (good j m) z)
  other_read k n (refused w p) e q = none_read w p q

  whole_key : (k : List ℕ) (n : ℕ) → Grows (key_of S l seen at k n b)
  unfolding key_of
  whole_key k n = listed (find_text k S.keys)
    where
      other_key_lem : (c : Bool) → Grows (elim c [ true ↦ key_refused 72 at | false ↦ other_key k (finish_text S.limit k n b) ])
      other_key_lem true = none_read 72 at
      other_key_lem false = other_read k n (finish_text S.limit k n b) refl

      deep : (c : Bool) → Grows (elim c [ true ↦ key_refused 64 at | false ↦ elim (any (eq_list k) seen) [ true ↦ key_refused 72 at | false ↦ other_key k (finish_text S.limit k n b) ] ])
      deep true = none_read 64 at
      deep false = other_key_lem (any (eq_list k) seen)

      on_line : (i : ℕ) (c : Bool) → Grows (elim c [ true ↦ key_refused 72 at | false ↦ key_good k (key_symbol i) [] n b ])
      on_line i true = none_read 72 at
      on_line i false = as_before k (key_symbol i) [] n

      listed : (o : Option ℕ) → Grows (elim o [ none ↦ elim (eqb l 0) [ true ↦ key_refused 64 at | false ↦ elim (any (eq_list k) seen) [ true ↦ key_refused 72 at | false ↦ other_key k (finish_text S.limit k n b) ] ] | some i ↦ elim (any (eq_list k) seen) [ true ↦ key_refused 72 at | false ↦ key_good k (key_symbol i) [] n b ] ])
      listed none = deep (eqb l 0)
      listed (some i) = on_line i (any (eq_list k) seen)

pub key_grows : (S : Setting) (t : List ℕ) (l : ℕ) (seen : List (List ℕ)) (at : ℕ) (b : Built) {key : List ℕ} {symbol : ℕ} {js : List ℕ} {next : ℕ} {after : Built} → key_at S t l seen at b ≡ key_good key symbol js next after → length b.rows ≤ length after.rows
unfolding key_at
key_grows S t l seen at b {key} {symbol} {js} {next} {after} = go (string_at t at)
  where
    go : (s : Got (List ℕ)) → elim s [ fault p ↦ key_refused 71 p | got k n ↦ key_of S l seen at k n b ] ≡ key_good key symbol js next after → length b.rows ≤ length after.rows
    go (fault p) = none_read S t l seen at b key symbol js next after 71 p
    go (got k n) = whole_key S t l seen at b key symbol js next after k n
