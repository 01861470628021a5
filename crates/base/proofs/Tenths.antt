-- A digit more: where the number stays at most a given one. Assumes nothing.
use Prim.Native.Nat.{ℕ, ◌+◌, ◌-◌, ◌*◌, ◌/◌, ◌<◌, ◌≤◌}
use native.Mathlib.Nat.{le-div_iff_mul-le, div-lt_iff_lt-mul}
use native.Mathlib.Omega.{arith}

-- after the number v a digit d stays at most `most` exactly where v is at most a tenth of what d leaves
pub tenth_fits : (v d most : ℕ) → d ≤ most → v ≤ (most - d) / 10 → v * 10 + d ≤ most
tenth_fits v d most l h = let k : v * 10 ≤ most - d = (le-div_iff_mul-le {k = 10} (omega arith)).0 h in omega arith

pub tenth_past : (v d most : ℕ) → (most - d) / 10 < v → most < v * 10 + d
tenth_past v d most h = let k : most - d < v * 10 = (div-lt_iff_lt-mul {k = 10} (omega arith)).0 h in omega arith
