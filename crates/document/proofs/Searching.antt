-- The probe as a loop over the slots, from the start slot on. Assumes nothing.
use mathlib.Core.Path.{◌≡◌, refl, sym, ap, ◌∙◌}
use mathlib.Core.Bool.{Bool, true, false, cond}
use mathlib.Core.Logic.{⊎_elim}
use mathlib.Core.List.{List}
use Prim.Native.Nat.{ℕ, suc, ◌+◌, ◌-◌, ◌<◌, ◌≤◌, zero-le}
use native.Mathlib.Nat.{eq-or-lt_of_le}
use native.Mathlib.Numerals.{add-one}
use native.Mathlib.Omega.{arith}
use lib.ListN.{get_or}
use Rattle.document.specs.declared.index.Probed.TheVariants.{Found, Free, Crowded}
use Rattle.document.specs.Fields.{as_row}
use Rattle.document.specs.Index.{slot_count, slot_after, at_slot, probe_from, probe}

-- after d slots, none of which ended it
pub record Searched (slots : List ℕ) (same? : ℕ → Bool) (s d : ℕ) : Type 0 where
  pub within : d ≤ slot_count
  pub rest : probe_from slots same? s d (slot_count - d) ≡ probe slots same? s

module _ (slots : List ℕ) (same? : ℕ → Bool) (s : ℕ) where
  pub searched_none : Searched slots same? s 0
  searched_none = record { within = zero-le; rest = refl }

  pub searched_all : (d : ℕ) → Searched slots same? s d → slot_count ≤ d → Crowded ≡ probe slots same? s
  unfolding probe_from
  searched_all d x h =
      let e : slot_count - d ≡ 0 = omega (arith, x.within) in
      sym (ap (probe_from slots same? s d) e) ∙ x.rest

  -- slot d of the walk, which was computed from a, holds v
  module _ (d a v : ℕ) (x : Searched slots same? s d) (h : d < slot_count) (ea : a ≡ s) (ev : v ≡ get_or slots (slot_after a d) 0) where
    turn : at_slot same? v (Free (slot_after a d)) (probe_from slots same? s (suc d) (slot_count - suc d)) ≡ probe slots same? s
    unfolding probe_from
    turn =
        let e : slot_count - d ≡ suc (slot_count - suc d) = omega arith in
        rw (ev, ea) (sym (ap (probe_from slots same? s d) e) ∙ x.rest)

    pub searched_free : v ≡ 0 → Free (slot_after a d) ≡ probe slots same? s
    searched_free z = rw z at turn

    turn_row : (i : ℕ) → v ≡ suc i → cond (same? i) (Found (as_row i)) (probe_from slots same? s (suc d) (slot_count - suc d)) ≡ probe slots same? s
    turn_row i e = rw e at turn

    -- the row, its number being v less 1, passes the test or not
    module _ (r : Bool) (nz : v ≡ 0 → ⊥) (er : r ≡ same? (v - 1)) where
      before : v ≡ suc (v - 1)
      before = ⊎_elim (λ e. absurd (nz (sym e))) (λ l. omega arith) (eq-or-lt_of_le (zero-le {n = v}))

      pub searched_known : r ≡ true → Found (as_row (v - 1)) ≡ probe slots same? s
      searched_known t = rw (sym er ∙ t) at (turn_row (v - 1) before)

      pub searched_more : r ≡ false → Searched slots same? s (d + 1)
      searched_more f = record { within = omega arith; rest = rw add-one (rw (sym er ∙ f) at (turn_row (v - 1) before)) }
