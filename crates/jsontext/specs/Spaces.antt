-- White space between the parts of a JSON text (RFC 8259, section 2). Assumes nothing.
use Rattle.std.specs.Prelude.{List, ℕ, ◌+◌, ◌-◌, length}
use Rattle.base.specs.Text.{byte_at, leading}
use Rattle.classes.specs.Classes.{space?}

-- the first place from i on where no space stands
unfoldable pub space_end : List ℕ → ℕ → ℕ
space_end t i = i + leading (length t - i) (λ k. space? (byte_at t (i + k)))
