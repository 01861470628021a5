-- Old form to new and back (document 02, Wish 10): sets moved between rules of 12 and of 14 bytes, computed from bytes. Assumes nothing.
use Rattle.std.specs.Prelude.{◌≡◌, List, [], ◌∷◌, ◌++◌, true, false, ℕ, replicate}
use Rattle.model.specs.Refusal.{gives, refuses}
use Rattle.automaton.specs.declared.Form.TheVariants.{Narrow, Wide, Isolating}
use Rattle.automaton.specs.Check.{check_of}
use Rattle.forms.specs.Move.{in_form, moved_of, moved_space}
use Rattle.cases.specs.Sets.{set_e, wide_e}
use Rattle.cases.specs.Edges.{bare_in}
use Rattle.cases.specs.SixteenTags.{junk}
use Rattle.cases.specs.EqualPairs.{pairs, plain_pairs, doubled}

-- a mask that has no effect: a/0, state 0, one tag; a to 0, which forgets the tag below a leaf
abbrev idle : List ℕ
idle =
    1 ∷ 0 ∷ 1 ∷ 0 ∷ 1 ∷ 0 ∷ 1 ∷ 0 ∷ 16 ∷ 0 ∷ 17 ∷ 0 ∷ 20 ∷ 0 ∷ 34 ∷ 0
    ∷ 0
    ∷ 0 ∷ 0 ∷ 0
    ∷ (0 ∷ 0 ∷ 0 ∷ 0 ∷ replicate 8 255 ++ 1 ∷ 0 ∷ [])

pub record RuleMoves : Type 0 where
  -- a set is in one form, and a wide one with no rules in two
  pub forms :
      (in_form Narrow set_e ≡ true) × (in_form Wide set_e ≡ false) × (in_form Isolating set_e ≡ false)
      × (in_form Narrow plain_pairs ≡ false) × (in_form Wide plain_pairs ≡ true) × (in_form Isolating plain_pairs ≡ false)
      × (in_form Narrow (pairs 1) ≡ false) × (in_form Wide (pairs 1) ≡ false) × (in_form Isolating (pairs 1) ≡ true)
  pub bare :
      (in_form Narrow (bare_in Wide 1 1 8) ≡ false) × (in_form Wide (bare_in Wide 1 1 8) ≡ true) × (in_form Isolating (bare_in Wide 1 1 8) ≡ true)
      × (in_form Narrow (bare_in Narrow 1 1 8) ≡ true) × (in_form Wide (bare_in Narrow 1 1 8) ≡ false) × (in_form Isolating (bare_in Narrow 1 1 8) ≡ false)
  -- P with masks of 0 and P with rules of 12 bytes; the total is that of the rules written
  pub there : (moved_of Wide Isolating plain_pairs (junk 85) ≡ gives 85) × (moved_space Wide Isolating plain_pairs (junk 87) ≡ pairs 0 ++ junk 2)
  pub back : (moved_of Isolating Wide (pairs 0) (junk 77) ≡ gives 77) × (moved_space Isolating Wide (pairs 0) (junk 80) ≡ plain_pairs ++ junk 3)
  -- with no rules the bytes stay as they are
  pub none :
      (moved_of Wide Isolating (bare_in Wide 1 1 16) (junk 20) ≡ gives 20) × (moved_space Wide Isolating (bare_in Wide 1 1 16) (junk 22) ≡ bare_in Wide 1 1 16 ++ junk 2)
      × (moved_of Isolating Wide (bare_in Wide 1 1 16) (junk 20) ≡ gives 20) × (moved_space Isolating Wide (bare_in Wide 1 1 16) (junk 22) ≡ bare_in Wide 1 1 16 ++ junk 2)
  -- the set's own number, 9 too ..
  pub unsound : (moved_of Wide Isolating (pairs 2) [] ≡ refuses 9) × (moved_of Isolating Wide (pairs 2) [] ≡ refuses 9) × (moved_of Wide Isolating (bare_in Wide 1 1 17) [] ≡ refuses 2)
  -- .. then 18, of sets with one-byte states also where they have no rules ..
  pub other_form :
      (moved_of Wide Isolating (pairs 0) [] ≡ refuses 18) × (moved_of Wide Isolating (pairs 1) [] ≡ refuses 18) × (moved_of Wide Isolating set_e [] ≡ refuses 18)
      × (moved_of Isolating Wide plain_pairs [] ≡ refuses 18) × (moved_of Isolating Wide wide_e [] ≡ refuses 18) × (moved_of Isolating Wide set_e [] ≡ refuses 18)
      × (moved_of Wide Isolating (bare_in Narrow 1 1 8) [] ≡ refuses 18) × (moved_of Isolating Wide (bare_in Narrow 1 1 8) [] ≡ refuses 18)
  -- .. then 10 for any mask that is not 0, whether or not it has an effect ..
  pub forgotten :
      (moved_of Isolating Wide (pairs 1) [] ≡ refuses 10) × (moved_of Isolating Wide doubled (junk 84) ≡ refuses 10) × (moved_space Isolating Wide (pairs 1) (junk 85) ≡ junk 85)
      × (check_of idle ≡ 0) × (moved_of Isolating Wide idle [] ≡ refuses 10)
  -- .. then 53; nothing is written
  pub short :
      (moved_of Wide Isolating plain_pairs (junk 84) ≡ refuses 53) × (moved_space Wide Isolating plain_pairs (junk 84) ≡ junk 84)
      × (moved_of Isolating Wide (pairs 0) (junk 76) ≡ refuses 53) × (moved_of Wide Isolating (bare_in Wide 1 1 0) (junk 19) ≡ refuses 53)
