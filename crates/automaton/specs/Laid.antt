-- Numbers put into a lent space from a place on: bytes of a stored form, keys into scratch. Assumes nothing.
use Rattle.std.specs.Prelude.{◌≡◌, List, ◌++◌, ℕ, ◌+◌, ◌≤◌, length, take, drop}

-- the space after `part` was put at a place, which ends at `end`: in front of it and behind it is what was there before
pub record Laid (before after : List ℕ) (at end : ℕ) (part : List ℕ) : Type 0 where
  pub ends : end ≡ at + length part
  pub inside : end ≤ length before
  pub holds : after ≡ take at before ++ part ++ drop end before
