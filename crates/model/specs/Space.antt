-- Lent spaces: what lies in one after items were put at a place of it. Assumes nothing.
use Rattle.std.specs.Prelude.{List, ◌++◌, Bool, cond, ℕ, ◌+◌, leb, length, take, drop}

-- they fit whole at this place of the space
abbrev pub fits_at? : {A : Type 0} → List A → ℕ → List A → Bool
fits_at? out at bytes = leb (at + length bytes) (length out)

-- the space with them put at this place, where they fit whole; else as it was
unfoldable pub put_at : {A : Type 0} → List A → ℕ → List A → List A
put_at out at bytes = cond (fits_at? out at bytes) (take at out ++ bytes ++ drop (at + length bytes) out) out
