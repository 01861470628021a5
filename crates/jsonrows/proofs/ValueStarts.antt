-- The byte that a value begins with, and the bytes that end one. Assumes nothing.
use mathlib.Core.Path.{◌≡◌, refl, sym, ap}
use mathlib.Core.Logic.{◌⊎◌, inl, inr, ⊎_elim}
use mathlib.Core.Bool.{Bool, true, false, ◌||◌}
use mathlib.Core.List.{List, [], ◌∷◌}
use Prim.Native.Nat.{ℕ, ◌<◌, ◌≤◌}
use native.Mathlib.Omega.{arith}
use borrow.Author.Tests.{eqb-true}
use lib.Dec.{eqb}
use lib.ListN.{length}
use Rattle.base.specs.Text.{byte_at}
use Rattle.base.proofs.Bytes.{past}
use Rattle.classes.specs.Classes.{digit?, space?}
use Rattle.model.specs.Lists.{any}
use Rattle.jsontext.specs.Productions.{Spaces, no_space, space, IntAt, only_zero, digit1_9, no_minus, minus, NumberAt, number, StringAt, string, e?, continues?}
use Rattle.jsontext.proofs.Places.{never, either, in_range}
use Rattle.jsonrows.specs.Value.{Value, Elements, Members}
use Rattle.jsonrows.specs.Productions.{WordAt, word_byte, ValueAt, is_null, is_true, is_false, is_number, is_string, is_array, is_object, SomeElements, last_element, more_elements, SomeMembers, last_member, more_members, MemberAt, pair}

-- white space is low, and what continues a number is above it
space_below : (b : ℕ) → space? b ≡ true → b ≤ 32
unfolding space?
space_below b =
    either (eqb b 9) (any (eqb b) (10 ∷ 13 ∷ 32 ∷ [])) (λ e. omega (arith, eqb-true b 9 e))
    (either (eqb b 10) (any (eqb b) (13 ∷ 32 ∷ [])) (λ e. omega (arith, eqb-true b 10 e))
    (either (eqb b 13) (any (eqb b) (32 ∷ [])) (λ e. omega (arith, eqb-true b 13 e)) (either (eqb b 32) false (λ e. omega (arith, eqb-true b 32 e)) (λ e. never (sym e)))))

-- so a higher byte is no white space
pub no_space_above : (b : ℕ) → 32 < b → space? b ≡ false
no_space_above b l = go (space? b) refl
  where
    go : (c : Bool) → space? b ≡ c → c ≡ false
    go true e = absurd (omega (arith, space_below b e))
    go false e = refl

continues_above : (b : ℕ) → continues? b ≡ true → 46 ≤ b
unfolding continues? e? digit?
continues_above b =
    either (digit? b) (eqb b 46 || e? b) (λ e. let r = in_range 48 57 b e in omega arith)
    (either (eqb b 46) (e? b) (λ e. omega (arith, eqb-true b 46 e)) (either (eqb b 101) (eqb b 69) (λ e. omega (arith, eqb-true b 101 e)) (λ e. omega (arith, eqb-true b 69 e))))

ends_below : (b : ℕ) → b < 46 → continues? b ≡ false
ends_below b l = go (continues? b) refl
  where
    go : (c : Bool) → continues? b ≡ c → c ≡ false
    go true e = absurd (omega (arith, continues_above b e))
    go false e = refl

module _ (t : List ℕ) where
  -- what ends a value ends it behind white space too
  pub ends_before : {j k : ℕ} → Spaces t j k → continues? (byte_at t k) ≡ false → continues? (byte_at t j) ≡ false
  ends_before no_space e = e
  ends_before {j = j} (space b s) e = ends_below (byte_at t j) (omega (arith, space_below (byte_at t j) b))

  -- past the end nothing continues, and no white space stands
  pub ends_text : continues? (byte_at t (length t)) ≡ false
  ends_text = ends_below (byte_at t (length t)) (omega (arith, past t (length t) (omega arith)))

  pub no_space_past : space? (byte_at t (length t)) ≡ false
  unfolding space?
  no_space_past = ap space? (sym (past t (length t) (omega arith)))

  -- a number begins with its sign or a digit
  int_starts : {i n : ℕ} {d : _} → IntAt t i d n → (48 ≤ byte_at t i) × (byte_at t i ≤ 57)
  int_starts (only_zero e q) = (omega arith, omega arith)
  int_starts {i = i} (digit1_9 e h) = let r = in_range 49 57 (byte_at t i) e in (omega arith, r.1)

  pub number_starts : {i n : ℕ} {m : _} → NumberAt t i m n → (byte_at t i ≡ 45) ⊎ ((48 ≤ byte_at t i) × (byte_at t i ≤ 57))
  number_starts (number no_minus w f x) = inr (int_starts w)
  number_starts (number (minus e q) w f x) = inl e

  -- a string begins with its quote
  pub string_starts : {i n : ℕ} {bs : List ℕ} → StringAt t i bs n → byte_at t i ≡ 34
  string_starts (string e h quote end) = e

  -- a word with its first letter
  pub word_starts : {i n b : ℕ} {w : List ℕ} → WordAt t i (b ∷ w) n → byte_at t i ≡ b
  word_starts (word_byte e h) = e

  -- a value begins with a byte that is no white space and closes no array
  pub value_starts : {i n : ℕ} {v : Value} → ValueAt t i v n → (32 < byte_at t i) × (byte_at t i ≡ 93 → ⊥)
  value_starts {i = i} (is_null h) = let e = word_starts h in (omega arith, λ q. omega arith)
  value_starts {i = i} (is_true h) = let e = word_starts h in (omega arith, λ q. omega arith)
  value_starts {i = i} (is_false h) = let e = word_starts h in (omega arith, λ q. omega arith)
  value_starts {i = i} (is_number h) = ⊎_elim (λ e. (omega arith, λ q. omega arith)) (λ r. (omega arith, λ q. omega arith)) (number_starts h)
  value_starts {i = i} (is_string h) = let e = string_starts h in (omega arith, λ q. omega arith)
  value_starts {i = i} (is_array m h) = let e = m.mark in (omega arith, λ q. omega arith)
  value_starts {i = i} (is_object m h) = let e = m.mark in (omega arith, λ q. omega arith)

  -- elements as their first value
  pub elements_start : {i n : ℕ} {vs : Elements} → SomeElements t i vs n → (32 < byte_at t i) × (byte_at t i ≡ 93 → ⊥)
  elements_start (last_element h s e q) = value_starts h
  elements_start (more_elements h s m more) = value_starts h

  -- a member with its key's quote
  member_starts : {i n : ℕ} {key : List ℕ} {v : Value} → MemberAt t i key v n → byte_at t i ≡ 34
  member_starts (pair h s m g) = string_starts h

  pub members_start : {i n : ℕ} {ms : Members} → SomeMembers t i ms n → byte_at t i ≡ 34
  members_start (last_member h s e q) = member_starts h
  members_start (more_members h s m more) = member_starts h
