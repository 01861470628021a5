-- Sixteen tags (document 02, Wish 2): the two forms, their limits and the moves between them, computed from bytes. Assumes nothing.
use Rattle.std.specs.Prelude.{◌≡◌, List, [], ◌∷◌, ◌++◌, ℕ, replicate}
use Rattle.model.specs.Refusal.{gives, refuses}
use Rattle.model.specs.Boolean.{union, product}
use Rattle.automaton.specs.declared.Form.TheVariants.{Narrow, Wide}
use Rattle.automaton.specs.Stored.{form_of}
use Rattle.automaton.specs.Encode.{encode_header}
use Rattle.automaton.specs.Check.{check_of}
use Rattle.boolean.specs.Answer.{combined_of}
use Rattle.forms.specs.Move.{moved_of, moved_space}
use Rattle.cases.specs.Sets.{set_e, set_g, wide_e, wide_g}
use Rattle.cases.specs.Edges.{bare_in}

-- a wide set with one state whose tags are these two bytes
abbrev pub tagged : ℕ → ℕ → ℕ → List ℕ
tagged tags low high = encode_header Wide 1 1 tags 0 ++ 0 ∷ 0 ∷ low ∷ high ∷ []

-- a space of so many bytes, filled with what was there
abbrev pub junk : ℕ → List ℕ
junk n = replicate n 7

pub record SixteenTags : Type 0 where
  -- the distance from the states to the rules tells the form, also where there are no rules
  pub forms : (form_of set_e ≡ Narrow) × (form_of wide_e ≡ Wide) × (form_of (bare_in Narrow 1 1 0) ≡ Narrow) × (form_of (bare_in Wide 1 1 0) ≡ Wide)
  -- one byte has 8 tags at most: 3; 17 are too many in either form: 2
  pub narrow : (check_of (bare_in Narrow 1 1 8) ≡ 0) × (check_of (bare_in Narrow 1 1 9) ≡ 3) × (check_of (bare_in Narrow 1 1 16) ≡ 3) × (check_of (bare_in Narrow 1 1 17) ≡ 2)
  pub wide : (check_of (bare_in Wide 1 1 0) ≡ 0) × (check_of (bare_in Wide 1 1 16) ≡ 0) × (check_of (bare_in Wide 1 1 17) ≡ 2)
  pub states : (check_of (bare_in Wide 1 256 0) ≡ 0) × (check_of (bare_in Wide 1 257 0) ≡ 2)
  -- 5 looks at both bytes, the low one first
  pub masks :
      (check_of (tagged 16 255 255) ≡ 0) × (check_of (tagged 9 0 1) ≡ 0) × (check_of (tagged 9 0 2) ≡ 5) × (check_of (tagged 8 0 1) ≡ 5)
      × (check_of (tagged 1 1 0) ≡ 0) × (check_of (tagged 1 0 1) ≡ 5)
  -- E and G moved to the wide form and back
  pub there : (moved_of Narrow Wide set_e (junk 61) ≡ gives 61) × (moved_space Narrow Wide set_e (junk 63) ≡ wide_e ++ junk 2) × (moved_space Narrow Wide set_g (junk 60) ≡ wide_g)
  pub back : (moved_of Wide Narrow wide_e (junk 61) ≡ gives 59) × (moved_space Wide Narrow wide_e (junk 61) ≡ set_e ++ junk 2) × (moved_space Wide Narrow wide_g (junk 58) ≡ set_g)
  -- the set's own number, then 18, then 8, then 53; nothing is written
  pub refused :
      (moved_of Narrow Wide (bare_in Narrow 1 1 9) [] ≡ refuses 3) × (moved_of Narrow Wide wide_e [] ≡ refuses 18) × (moved_of Wide Narrow set_e [] ≡ refuses 18)
      × (moved_of Wide Narrow (bare_in Wide 1 1 9) [] ≡ refuses 8) × (moved_of Wide Narrow (bare_in Wide 1 1 8) [] ≡ refuses 53)
      × (moved_of Narrow Wide set_e (junk 60) ≡ refuses 53) × (moved_space Narrow Wide set_e (junk 60) ≡ junk 60)
  -- 52 at more than 16 tags together, 53 by the wide length
  pub together :
      (combined_of union (bare_in Narrow 1 1 8) (bare_in Narrow 1 1 8) (junk 23) ≡ gives 23) × (combined_of union (bare_in Narrow 1 1 8) (bare_in Wide 1 1 9) (junk 23) ≡ refuses 52)
      × (combined_of product (bare_in Wide 1 1 16) (bare_in Narrow 1 1 0) (junk 20) ≡ gives 20) × (combined_of product (bare_in Narrow 1 1 8) (bare_in Wide 1 1 9) (junk 20) ≡ refuses 52)
      × (combined_of union (bare_in Narrow 1 1 8) (bare_in Narrow 1 1 8) (junk 22) ≡ refuses 53)
