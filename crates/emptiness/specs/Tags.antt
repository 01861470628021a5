-- The tags of the states seen so far as one mask, which tells whether two states share a tag. Assumes nothing.
use Rattle.std.specs.Prelude.{Bool, ◌&&◌, not, ℕ, zero, suc}
use Rattle.std.specs.Int.Bits.{bit_or}
use Rattle.model.specs.Lists.{all_below}
use Rattle.model.specs.Automaton.{Automaton, state_at, carries?}

-- the tags of the states below q
unfoldable pub seen_below : Automaton → ℕ → ℕ
seen_below A zero = 0
seen_below A (suc q) = bit_or (seen_below A q) (state_at A q).mask

-- state q shares no tag with a lower one
abbrev pub apart_at? : Automaton → ℕ → Bool
apart_at? A q = all_below q (λ p. all_below A.tags (λ k. not (carries? A p k && carries? A q k)))
