-- What is kept of decoded bytes for their slot: how many they are, the first eight and the last eight. Assumes nothing.
use Rattle.std.specs.Prelude.{◌≡◌, List, ℕ, ◌%◌, ◌^◌, ◌<◌, min, length}
use Rattle.base.specs.Text.{byte_at}
use Rattle.jsontext.specs.Decoded.{first_eight, last_eight}
use Rattle.jsontext.specs.declared.kept.Kept.{Kept}

-- all are bytes
abbrev pub Bytes : List ℕ → Type 0
Bytes bs = (i : ℕ) → i < length bs → byte_at bs i < 256

-- what is kept of the bytes bs
pub record Keeps (bs : List ℕ) (k : Kept) : Type 0 where
  pub bytes : Bytes bs
  pub count : k.count ≡ length bs % 2 ^ 32
  pub few : k.few ≡ min (length bs) 8
  pub first : k.first ≡ first_eight bs
  pub last : k.last ≡ last_eight bs
