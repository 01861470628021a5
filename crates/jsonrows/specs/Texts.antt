-- What the probe for a text answers. Assumes nothing.
use Rattle.std.specs.Prelude.{◌≡◌, List, ℕ, ◌<◌, get_or}
use Rattle.base.specs.Text.{got}
use Rattle.document.specs.declared.index.Probed.{Probed}
use Rattle.document.specs.Index.{probe}
use Rattle.jsontext.specs.Strings.{string_at}
use Rattle.jsontext.specs.Decoded.{text_slot, same_text}

-- A whole string stands at a place, and the answer is that of the probe for its text, numbers being those of texts.
pub record ProbedAt (t starts found : List ℕ) (at next : ℕ) (p : Probed) : Type 0 where
  pub bytes : List ℕ
  pub string : string_at t at ≡ got bytes next
  pub answer : p ≡ probe found (λ k. same_text (string_at t at) (string_at t (get_or starts k 0))) (text_slot bytes)

-- A whole string that was read, by its slot.
pub record WholeString (t : List ℕ) (at slot next : ℕ) : Type 0 where
  pub bytes : List ℕ
  pub string : string_at t at ≡ got bytes next
  pub slot_is : slot ≡ text_slot bytes
  pub behind : at < next
