-- The slots tried held lines that differ. Assumes nothing.
use mathlib.Core.Bool.{Bool}
use mathlib.Core.List.{List}
use Prim.Native.Nat.{ℕ}
use Rattle.document.proofs.Searching.{Searched}
use Rattle.jsontext.specs.Strings.{string_at}
use Rattle.jsontext.specs.Decoded.{is_text}
use Rattle.jsonrows.specs.KeyTable.{key_at}
use Rattle.jsonrows.proofs.keys.find_key.Given as goal

-- the string at a place is line k
abbrev pub is? : List ℕ → ℕ → List ℕ → ℕ → Bool
is? text at list k = is_text (string_at text at) (key_at list k)

abbrev pub invariant-loop-d : goal.invariant-loop-d
invariant-loop-d l = Searched l.source.key_slots.now (is? l.source.text.now l.at l.source.list.now) l.slot l.d
