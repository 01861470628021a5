-- Lines made of pieces, and the output that they are. Assumes nothing.
use mathlib.Core.Path.{◌≡◌, refl, ap, ◌∙◌}
use mathlib.Core.List.{List, [], ◌∷◌, ◌++◌}
use Prim.Native.Nat.{ℕ, ◌+◌, ◌<◌, ◌≤◌}
use native.Mathlib.Omega.{arith}
use borrow.Author.Tests.{le-leb, lt-leb}
use lib.ListN.{length, length-append}
use Rattle.names.specs.Names.{decimal}
use Rattle.model.specs.Space.{put_at}
use Rattle.model.proofs.Space.{put_front}
use Rattle.spelling.specs.Parts.{Wrote}
use Rattle.spelling.proofs.Putting.{both_wrote}
use Rattle.console.specs.Words.{alive_word, refused_word, at_word, numbered, line_of, refused_line, refused_at_line, placed?, refusal_line, alive_lines}
use Rattle.console.specs.Output.{Printed}

-- a number put behind a place
pub decimal_put : (d : List ℕ) (at n : ℕ) (after : List ℕ) (r : ℕ) → (r ≡ length (decimal n)) × ((after ≡ put_at d at (decimal n)) × (r ≤ 20)) → Wrote d at (decimal n) after (at + r) × (at + r ≤ at + 20)
decimal_put d at n after r (e, (s, l)) = (record { place = ap (at +◌) e; is = s }, omega arith)

-- a piece behind a piece, where the space is long enough
both : (d : List ℕ) (at : ℕ) (a b : List ℕ) (p : ℕ) (mid : List ℕ) (r : ℕ) (new : List ℕ) → r ≤ length d → Wrote d at a mid p → Wrote mid p b new r → Wrote d at (a ++ b) new r
both d at a b p mid r new l w v =
    let e = length-append a b in
    both_wrote d at a b (a ++ b) refl (omega (arith, w.place, v.place)) p mid w r new v

-- a word and a number
pub numbered_put : (d : List ℕ) (at : ℕ) (word : List ℕ) (n p : ℕ) (mid : List ℕ) (r : ℕ) (new : List ℕ) → at + length word + 20 ≤ length d → Wrote d at word mid p → Wrote mid p (decimal n) new r × (r ≤ p + 20) → Wrote d at (numbered word n) new r × (r ≤ at + length word + 20)
unfolding numbered
numbered_put d at word n p mid r new l w v =
    let few : r ≤ at + length word + 20 = omega (arith, w.place, v.1) in
    (both d at word (decimal n) p mid r new (omega arith) w v.0, few)

-- a line's bytes and its end
pub line_put : (d : List ℕ) (at : ℕ) (bytes : List ℕ) (p : ℕ) (mid : List ℕ) (r : ℕ) (new : List ℕ) → p < length d → Wrote d at bytes mid p → Wrote mid p (10 ∷ []) new r → Wrote d at (line_of bytes) new r × (r ≡ p + 1)
unfolding line_of
line_put d at bytes p mid r new l w v =
    let e : r ≡ p + 1 = v.place in
    (both d at bytes (10 ∷ []) p mid r new (omega arith) w v, e)

-- a line of a word and a number
pub number_line_put : (d : List ℕ) (at : ℕ) (word : List ℕ) (n p : ℕ) (mid : List ℕ) (r : ℕ) (new : List ℕ) → at + length word + 20 < length d → Wrote d at (numbered word n) mid p × (p ≤ at + length word + 20) → Wrote mid p (10 ∷ []) new r → Wrote d at (line_of (numbered word n)) new r × (r ≤ at + length word + 21)
number_line_put d at word n p mid r new l w v =
    let x = line_put d at (numbered word n) p mid r new (omega (arith, w.1)) w.0 v in
    (x.0, omega (arith, x.1, w.1))

-- a refusal's number and place
pub numbers_put : (d : List ℕ) (n q p : ℕ) (mid : List ℕ) (r : ℕ) (new : List ℕ) → 52 ≤ length d → Wrote d 0 (numbered refused_word n) mid p × (p ≤ 28) → Wrote mid p (numbered at_word q) new r × (r ≤ p + 4 + 20) → Wrote d 0 (numbered refused_word n ++ numbered at_word q) new r × (r ≤ 52)
numbers_put d n q p mid r new l w v =
    let few : r ≤ 52 = omega (arith, w.1, v.1) in
    (both d 0 (numbered refused_word n) (numbered at_word q) p mid r new (omega arith) w.0 v.0, few)

-- what stands at the front is the output
pub printed : (d bytes new : List ℕ) (r : ℕ) → r ≤ length d → Wrote d 0 bytes new r → Printed bytes d new r
printed d bytes new r l w =
    let e : r ≡ length bytes = omega (arith, w.place) in
    record { count = e; fits = l; space = w.is ∙ put_front d bytes (omega arith) }

-- an answer of one word
pub answer_put : (d word new : List ℕ) (r : ℕ) → length word ≤ length d → Wrote d 0 word new r → Printed word d new r
answer_put d word new r l w = printed d word new r (omega (arith, w.place)) w

-- a refusal
pub refused_put : (d : List ℕ) (n : ℕ) (new : List ℕ) (r : ℕ) → 28 < length d → Wrote d 0 (line_of (numbered refused_word n)) new r × (r ≤ 29) → Printed (refused_line n) d new r
refused_put d n new r l w = printed d (refused_line n) new r (omega (arith, w.1)) w.0

-- a refusal with its place
pub refused_at_put : (d : List ℕ) (n q p : ℕ) (mid : List ℕ) (r : ℕ) (new : List ℕ) → 52 < length d → Wrote d 0 (numbered refused_word n ++ numbered at_word q) mid p × (p ≤ 52) → Wrote mid p (10 ∷ []) new r → Printed (refused_at_line n q) d new r
refused_at_put d n q p mid r new l w v =
    let x = line_put d 0 (numbered refused_word n ++ numbered at_word q) p mid r new (omega (arith, w.1)) w.0 v in
    printed d (refused_at_line n q) new r (omega (arith, x.1, w.1)) x.0

length_line : (bytes : List ℕ) → length (line_of bytes) ≡ length bytes + 1
unfolding line_of
length_line bytes = length-append bytes (10 ∷ [])

-- a height and a text
pub alive_put : (d : List ℕ) (h : ℕ) (text : List ℕ) (p : ℕ) (mid : List ℕ) (r : ℕ) (new : List ℕ) → 28 + length text ≤ length d → Wrote d 0 (line_of (numbered alive_word h)) mid p × (p ≤ 27) → Wrote mid p (line_of text) new r → Printed (alive_lines h text) d new r
alive_put d h text p mid r new l w v =
    let e = length_line text in
    let few : r ≤ length d = omega (arith, w.1, v.place) in
    printed d (alive_lines h text) new r few (both d 0 (line_of (numbered alive_word h)) (line_of text) p mid r new few w.0 v)

-- which numbers have a place
module _ (n q : ℕ) (d new : List ℕ) (r : ℕ) where
  pub below_placed : n < 63 → Printed (refused_line n) d new r → Printed (refusal_line n q) d new r
  unfolding refusal_line placed?
  below_placed l w = rw (lt-leb 63 n l) w

  pub above_placed : 63 ≤ n → 67 < n → Printed (refused_line n) d new r → Printed (refusal_line n q) d new r
  unfolding refusal_line placed?
  above_placed k l w = rw (le-leb 63 n k) (rw (lt-leb n 67 l) w)

  pub is_placed : 63 ≤ n → n ≤ 67 → Printed (refused_at_line n q) d new r → Printed (refusal_line n q) d new r
  unfolding refusal_line placed?
  is_placed k l w = rw (le-leb 63 n k) (rw (le-leb n 67 l) w)
