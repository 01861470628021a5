-- A sample as a number. Assumes nothing.
use Rattle.std.specs.Prelude.{ℕ, ◌+◌, ◌*◌, Option, Some, None}
use Rattle.emptiness.specs.declared.Sample.{Sample}

-- 0 for dead; the rows and, above the lowest 16 bits, the levels for live
abbrev pub sample_value : Option Sample → ℕ
sample_value None = 0
sample_value (Some s) = s.rows + 65536 * s.levels
