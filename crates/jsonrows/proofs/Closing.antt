-- The closing mark, and the row of a member or an element that it closes: each way through the definitions. Assumes nothing.
use mathlib.Core.Path.{◌≡◌, refl}
use mathlib.Core.Bool.{true, false}
use mathlib.Core.List.{List}
use Rattle.std.specs.Prelude.{Result, Err}
use Prim.Native.Nat.{ℕ, ◌+◌}
use borrow.Author.Tests.{eq-eqb, ne_eqb}
use lib.Dec.{eqb}
use Rattle.base.specs.Text.{byte_at}
use Rattle.model.specs.Table.{Row}
use Rattle.document.specs.declared.scalar.Scalar.TheVariants.{Bare}
use Rattle.jsonrows.specs.Grammar.{Built, refused, leaf_row, finish, close_at}
use Rattle.jsonrows.specs.State.{Says, says_refused}
use Rattle.base.specs.declared.refusal.Refusal.TheVariants.{JsonFault}
use Rattle.base.specs.declared.refusal.TextRefusal.{TextRefusal}
use Rattle.jsonrows.specs.declared.rows.Part.{Part}
use Rattle.jsonrows.proofs.Holding.{says_by, says_row}

module _ (limit : ℕ) (t : List ℕ) (mark leaf at : ℕ) (b : Built) where
  other_mark : (byte_at t at ≡ mark → ⊥) → close_at limit t mark leaf at b ≡ refused 71 at
  unfolding close_at
  other_mark n = let e : eqb (byte_at t at) mark ≡ false = ne_eqb (byte_at t at) mark n in rw (close_at, e)

  that_mark : byte_at t at ≡ mark → close_at limit t mark leaf at b ≡ finish limit (leaf_row leaf Bare) (at + 1) b
  unfolding close_at
  that_mark q = let e : eqb (byte_at t at) mark ≡ true = eq-eqb (byte_at t at) mark q in rw (close_at, e)

module _ {t cells slots starts found old : List ℕ} {before limit : ℕ} (mark leaf at : ℕ) (b : Built) where
  pub close_wrong : (byte_at t at ≡ mark → ⊥) → Says t cells slots starts found old before limit (Err (record { refusal = JsonFault; place = at })) (close_at limit t mark leaf at b)
  close_wrong n = says_by (other_mark limit t mark leaf at b n) (says_refused refl)

  pub close_right : {r : Result Part TextRefusal} {row : Row} → byte_at t at ≡ mark → row ≡ leaf_row leaf Bare → Says t cells slots starts found old before limit r (finish limit row (at + 1) b) → Says t cells slots starts found old before limit r (close_at limit t mark leaf at b)
  close_right q e h = says_by (that_mark limit t mark leaf at b q) (says_row (at + 1) b e h)
