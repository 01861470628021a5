-- `document::scalar::from_cells` meets its contract: its tests are those of the definition, kind by kind. Assumes nothing.
use Rattle.std.specs.Prelude.{Some, None}
use mathlib.Core.Path.{◌≡◌, ap}
use Prim.Native.Nat.{ℕ, ◌^◌}
use borrow.Author.Rules.{rules}
use borrow.Author.Tests.{eq-eqb, ne_eqb, lt-ltb}
use Rattle.document.specs.Scalars.{scalar_at, decode_scalar}
use Rattle.document.proofs.scalar.from_cells.Goals as goal

other : (k p : ℕ) → (k ≡ 0 → ⊥) → (k ≡ 1 → ⊥) → (k ≡ 2 → ⊥) → (k ≡ 3 → ⊥) → (k ≡ 4 → ⊥) → None ≡ decode_scalar k p
other k p a b c d e = rw (ne_eqb k 0 a, ne_eqb k 1 b, ne_eqb k 2 c, ne_eqb k 3 d, ne_eqb k 4 e)

pub returns-then-payload-eq0 : goal.returns-then-payload-eq0
unfolding scalar_at
returns-then-payload-eq0 c = rw (c.in-0.is, eq-eqb _ _ c.if-payload-eq0.true)

pub returns-then-payload-lt2 : goal.returns-then-payload-lt2
unfolding scalar_at
returns-then-payload-lt2 c = rw (c.in-1.is, lt-ltb _ _ c.if-payload-lt2.true)

pub returns-in-2 : goal.returns-in-2
unfolding scalar_at
returns-in-2 c = rw (c.in-2.is, lt-ltb c.args.payload (2 ^ 64) (search rules))

pub returns-else-payload-eq-MINUS_ZERO : goal.returns-else-payload-eq-MINUS_ZERO
unfolding scalar_at
returns-else-payload-eq-MINUS_ZERO c =
    rw (
      c.in-3.is,
      lt-ltb c.args.payload (2 ^ 64) (search rules),
      ne_eqb _ _ c.if-payload-eq-MINUS_ZERO.false,
    ) (ap Some c.rate_of.ensures)

pub returns-then-payload-lt-NAMES : goal.returns-then-payload-lt-NAMES
unfolding scalar_at
returns-then-payload-lt-NAMES c = rw (c.in-4.is, lt-ltb _ _ c.if-payload-lt-NAMES.true)
