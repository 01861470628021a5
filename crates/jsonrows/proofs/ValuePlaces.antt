-- A value, its elements and members end behind their place and inside the text. Assumes nothing.
use mathlib.Core.Path.{◌≡◌, refl}
use mathlib.Core.Bool.{false}
use mathlib.Core.List.{List, ◌∷◌}
use Prim.Native.Nat.{ℕ, ◌<◌, ◌≤◌}
use native.Mathlib.Omega.{arith}
use lib.Dec.{eqb}
use lib.ListN.{length}
use Rattle.model.specs.Lists.{any}
use Rattle.jsontext.proofs.Places.{stands_as, neither}
use Rattle.jsontext.proofs.SpaceProductions.{spaces_ahead}
use Rattle.jsontext.proofs.NumberProductions.{number_ahead}
use Rattle.jsontext.proofs.StringProductions.{string_ahead}
use Rattle.jsonrows.specs.Value.{Value, Elements, Members}
use Rattle.jsonrows.specs.Productions.{WordAt, word_end, word_byte, MarkAt, ValueAt, is_null, is_true, is_false, is_number, is_string, is_array, is_object, ElementsAt, no_elements, some_elements, SomeElements, last_element, more_elements, MembersAt, no_members, some_members, SomeMembers, last_member, more_members, MemberAt, pair}

module _ (t : List ℕ) where
  -- a word without the byte 0
  word_ahead : {i n : ℕ} {w : List ℕ} → WordAt t i w n → any (eqb 0) w ≡ false → i ≤ length t → (i ≤ n) × (n ≤ length t)
  word_ahead word_end z inside = (omega arith, inside)
  word_ahead {i = i} (word_byte {b = b} {w = w} e h) z inside =
      let (x, y) = neither (eqb 0 b) (any (eqb 0) w) z in
      let k = stands_as t i b x e in
      let r = word_ahead h y (omega arith) in
      (omega arith, r.1)

  letters_ahead : {i n b : ℕ} {w : List ℕ} → WordAt t i (b ∷ w) n → any (eqb 0) (b ∷ w) ≡ false → (i < n) × (n ≤ length t)
  letters_ahead {i = i} (word_byte {b = b} {w = w} e h) z =
      let (x, y) = neither (eqb 0 b) (any (eqb 0) w) z in
      let k = stands_as t i b x e in
      let r = word_ahead h y (omega arith) in
      (omega arith, r.1)

  mark_ahead : {b i n : ℕ} → eqb 0 b ≡ false → MarkAt t b i n → (i < n) × (n ≤ length t)
  mark_ahead {b} {i} z h = let k = stands_as t i b z h.mark in let r = spaces_ahead t h.spaces (omega arith) in (omega arith, r.1)

  mutual
    -- A VALUE ENDS BEHIND ITS PLACE AND INSIDE THE TEXT.
    pub value_ahead : {i n : ℕ} {v : Value} → ValueAt t i v n → (i < n) × (n ≤ length t)
    value_ahead (is_null h) = letters_ahead h refl
    value_ahead (is_true h) = letters_ahead h refl
    value_ahead (is_false h) = letters_ahead h refl
    value_ahead (is_number h) = number_ahead t h
    value_ahead (is_string h) = string_ahead t h
    value_ahead (is_array m h) = let a = mark_ahead refl m in let b = elements_ahead h in (omega arith, b.1)
    value_ahead (is_object m h) = let a = mark_ahead refl m in let b = members_ahead h in (omega arith, b.1)

    elements_ahead : {i n : ℕ} {vs : Elements} → ElementsAt t i vs n → (i < n) × (n ≤ length t)
    elements_ahead {i = i} (no_elements e q) = let k = stands_as t i 93 refl e in (omega arith, omega arith)
    elements_ahead (some_elements h) = some_elements_ahead h

    pub some_elements_ahead : {i n : ℕ} {vs : Elements} → SomeElements t i vs n → (i < n) × (n ≤ length t)
    some_elements_ahead (last_element {k = k} h s e q) = let a = value_ahead h in let b = spaces_ahead t s a.1 in let c = stands_as t k 93 refl e in (omega arith, omega arith)
    some_elements_ahead (more_elements h s m more) = let a = value_ahead h in let b = spaces_ahead t s a.1 in let c = mark_ahead refl m in let d = some_elements_ahead more in (omega arith, d.1)

    members_ahead : {i n : ℕ} {ms : Members} → MembersAt t i ms n → (i < n) × (n ≤ length t)
    members_ahead {i = i} (no_members e q) = let k = stands_as t i 125 refl e in (omega arith, omega arith)
    members_ahead (some_members h) = some_members_ahead h

    pub some_members_ahead : {i n : ℕ} {ms : Members} → SomeMembers t i ms n → (i < n) × (n ≤ length t)
    some_members_ahead (last_member {k = k} h s e q) = let a = member_ahead h in let b = spaces_ahead t s a.1 in let c = stands_as t k 125 refl e in (omega arith, omega arith)
    some_members_ahead (more_members h s m more) = let a = member_ahead h in let b = spaces_ahead t s a.1 in let c = mark_ahead refl m in let d = some_members_ahead more in (omega arith, d.1)

    member_ahead : {i n : ℕ} {key : List ℕ} {v : Value} → MemberAt t i key v n → (i < n) × (n ≤ length t)
    member_ahead (pair h s m g) = let a = string_ahead t h in let b = spaces_ahead t s a.1 in let c = mark_ahead refl m in let d = value_ahead g in (omega arith, d.1)
