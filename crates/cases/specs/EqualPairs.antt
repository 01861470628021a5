-- Lists of equal pairs (document 02, Wish 9): sets whose rules forget tags, computed from bytes: the form, its numbers, the judge, the run check, union and product, the sample, the move. Assumes nothing.
use Rattle.std.specs.Prelude.{◌≡◌, List, [], ◌∷◌, ◌++◌, map, true, false, ℕ, ◌/◌, ◌%◌, length, take, drop, replicate}
use Rattle.model.specs.Refusal.{gives, refuses}
use Rattle.model.specs.Automaton.{forgets_nothing?}
use Rattle.model.specs.Papers.{papers?}
use Rattle.model.specs.Boolean.{union, product}
use Rattle.automaton.specs.declared.Form.TheVariants.{Narrow, Wide, Isolating}
use Rattle.automaton.specs.Form.{total_length}
use Rattle.automaton.specs.Stored.{form_of, decode}
use Rattle.automaton.specs.Check.{check_of}
use Rattle.runs.specs.Check.{check_run_of}
use Rattle.boolean.specs.Answer.{combined_of, combined_space}
use Rattle.forms.specs.Move.{moved_of}
use Rattle.cases.specs.Sets.{set_e}
use Rattle.cases.specs.Cases.{Case, judged, refused, live, unsampled, AllHold, cells_from, a, a=, g, g_names}
use Rattle.cases.specs.Edges.{bare_in}
use Rattle.cases.specs.SixteenTags.{junk}

-- four unused child places, and the two behind two children
abbrev none : List ℕ
none = replicate 8 255

abbrev two : List ℕ
two = replicate 4 255

-- a rule of the form with masks
abbrev rule : ℕ → ℕ → List ℕ → ℕ → List ℕ
rule symbol target places mask = symbol ∷ 0 ∷ target ∷ 0 ∷ (places ++ mask % 256 ∷ mask / 256 ∷ [])

-- P, lists of equal pairs (source document 000, section 2): p/2, cons/2, nil/0, a/0; state 0 with tag 0, 1, and 2 final; p(0,0) to 1, which forgets the tags of
-- the mask, cons(1,2) to 2, nil to 2, a to 0
abbrev pub pairs : ℕ → List ℕ
pairs mask =
    4 ∷ 0 ∷ 3 ∷ 0 ∷ 1 ∷ 0 ∷ 4 ∷ 0 ∷ 16 ∷ 0 ∷ 20 ∷ 0 ∷ 29 ∷ 0 ∷ 85 ∷ 0
    ∷ 2 ∷ 2 ∷ 0 ∷ 0
    ∷ 0 ∷ 1 ∷ 0 ∷ 0 ∷ 0 ∷ 0 ∷ 1 ∷ 0 ∷ 0
    ∷ (rule 0 1 (0 ∷ 0 ∷ 0 ∷ 0 ∷ two) mask ++ rule 1 2 (1 ∷ 0 ∷ 2 ∷ 0 ∷ two) 0 ++ rule 2 2 none 0 ++ rule 3 0 none 0)

-- the same with rules of 12 bytes
abbrev pub plain_pairs : List ℕ
plain_pairs =
    4 ∷ 0 ∷ 3 ∷ 0 ∷ 1 ∷ 0 ∷ 4 ∷ 0 ∷ 16 ∷ 0 ∷ 20 ∷ 0 ∷ 29 ∷ 0 ∷ 77 ∷ 0
    ∷ 2 ∷ 2 ∷ 0 ∷ 0
    ∷ 0 ∷ 1 ∷ 0 ∷ 0 ∷ 0 ∷ 0 ∷ 1 ∷ 0 ∷ 0
    ∷ (take 12 (rule 0 1 (0 ∷ 0 ∷ 0 ∷ 0 ∷ two) 0) ++ take 12 (rule 1 2 (1 ∷ 0 ∷ 2 ∷ 0 ∷ two) 0) ++ take 12 (rule 2 2 none 0) ++ take 12 (rule 3 0 none 0))

-- a rule that stands twice, with two masks: a/0, state 0, two tags; a to 0, a to 0
abbrev pub twice : List ℕ
twice = 1 ∷ 0 ∷ 1 ∷ 0 ∷ 2 ∷ 0 ∷ 2 ∷ 0 ∷ 16 ∷ 0 ∷ 17 ∷ 0 ∷ 20 ∷ 0 ∷ 48 ∷ 0 ∷ 0 ∷ 0 ∷ 0 ∷ 0 ∷ (rule 0 0 none 1 ++ rule 0 0 none 2)

-- D, lists of doubled elements (source document 000, section 2): cons/2, nil/0, a/0; state 0 with tag 0, 1 final, 2; cons(0,1) to 2, cons(0,2) to 1, which
-- forgets tag 0, nil to 1, a to 0
abbrev pub doubled : List ℕ
doubled =
    3 ∷ 0 ∷ 3 ∷ 0 ∷ 1 ∷ 0 ∷ 4 ∷ 0 ∷ 16 ∷ 0 ∷ 19 ∷ 0 ∷ 28 ∷ 0 ∷ 84 ∷ 0
    ∷ 2 ∷ 0 ∷ 0
    ∷ 0 ∷ 1 ∷ 0 ∷ 1 ∷ 0 ∷ 0 ∷ 0 ∷ 0 ∷ 0
    ∷ (rule 0 2 (0 ∷ 0 ∷ 1 ∷ 0 ∷ two) 0 ++ rule 0 1 (0 ∷ 0 ∷ 2 ∷ 0 ∷ two) 1 ++ rule 1 1 none 0 ++ rule 2 0 none 0)

-- balanced trees: f/2, a/0; state 0 final with tag 0; f(0,0) to 0, which forgets the tag that its target carries, a to 0
abbrev pub balanced : List ℕ
balanced =
    2 ∷ 0 ∷ 1 ∷ 0 ∷ 1 ∷ 0 ∷ 2 ∷ 0 ∷ 16 ∷ 0 ∷ 18 ∷ 0 ∷ 21 ∷ 0 ∷ 49 ∷ 0
    ∷ 2 ∷ 0
    ∷ 1 ∷ 1 ∷ 0
    ∷ (rule 0 0 (0 ∷ 0 ∷ 0 ∷ 0 ∷ two) 1 ++ rule 1 0 none 0)

-- one row read in two ways: k/1, f/2, a/0; state 0 with tag 0, 1, 2, and 3 final; k(2) to 3, which forgets the tags of the mask, f(0,1) and f(1,0) to 2, a to 0
-- and to 1
abbrev pub readings : ℕ → List ℕ
readings mask =
    3 ∷ 0 ∷ 4 ∷ 0 ∷ 1 ∷ 0 ∷ 5 ∷ 0 ∷ 16 ∷ 0 ∷ 19 ∷ 0 ∷ 31 ∷ 0 ∷ 101 ∷ 0
    ∷ 1 ∷ 2 ∷ 0
    ∷ 0 ∷ 1 ∷ 0 ∷ 0 ∷ 0 ∷ 0 ∷ 0 ∷ 0 ∷ 0 ∷ 1 ∷ 0 ∷ 0
    ∷ (rule 0 3 (2 ∷ 0 ∷ replicate 6 255) mask ++ rule 1 2 (0 ∷ 0 ∷ 1 ∷ 0 ∷ two) 0 ++ rule 1 2 (1 ∷ 0 ∷ 0 ∷ 0 ∷ two) 0 ++ rule 2 0 none 0 ++ rule 2 1 none 0)

-- two states share a tag, and a rule forgets it: a/0, states 0 and 1 final, both with tag 0; a to 0, which forgets the tag
abbrev pub shared : List ℕ
shared = 1 ∷ 0 ∷ 2 ∷ 0 ∷ 1 ∷ 0 ∷ 1 ∷ 0 ∷ 16 ∷ 0 ∷ 17 ∷ 0 ∷ 23 ∷ 0 ∷ 37 ∷ 0 ∷ 0 ∷ 1 ∷ 1 ∷ 0 ∷ 1 ∷ 1 ∷ 0 ∷ rule 0 0 none 1

-- steps beside each other: g/1, a/0; state 0 final, 1 with tag 0; g(0) to 0, g(0) to 1, a to 0, a to 1
abbrev pub beside : List ℕ
beside =
    2 ∷ 0 ∷ 2 ∷ 0 ∷ 1 ∷ 0 ∷ 4 ∷ 0 ∷ 16 ∷ 0 ∷ 18 ∷ 0 ∷ 24 ∷ 0 ∷ 80 ∷ 0
    ∷ 1 ∷ 0
    ∷ 1 ∷ 0 ∷ 0 ∷ 0 ∷ 1 ∷ 0
    ∷ (rule 0 0 (0 ∷ 0 ∷ replicate 6 255) 0 ++ rule 0 1 (0 ∷ 0 ∷ replicate 6 255) 0 ++ rule 1 0 none 0 ++ rule 1 1 none 0)

-- name lists: p, c, n, a; c, n, a; f, a; k, f, a
abbrev pairs_names : List ℕ
pairs_names = 112 ∷ 10 ∷ 99 ∷ 10 ∷ 110 ∷ 10 ∷ 97 ∷ []

abbrev doubled_names : List ℕ
doubled_names = drop 2 pairs_names

abbrev balanced_names : List ℕ
balanced_names = 102 ∷ 10 ∷ 97 ∷ []

abbrev readings_names : List ℕ
readings_names = 107 ∷ 10 ∷ balanced_names

-- texts: n, p(..,..), c(..,..), f(..,..), k(..)
abbrev n : List ℕ
n = 110 ∷ []

abbrev of_two : ℕ → List ℕ → List ℕ → List ℕ
of_two name x y = name ∷ 40 ∷ (x ++ 44 ∷ (y ++ 41 ∷ []))

abbrev p : List ℕ → List ℕ → List ℕ
p = of_two 112

abbrev c : List ℕ → List ℕ → List ℕ
c = of_two 99

abbrev f : List ℕ → List ℕ → List ℕ
f = of_two 102

abbrev k : List ℕ → List ℕ
k x = 107 ∷ 40 ∷ (x ++ 41 ∷ [])

-- The judge and the sample. In `p` no two unequal parts stand, whatever is forgotten behind it; two pairs are each equal for themselves only where the tag is
-- forgotten between them; a rule's own target comes after what it forgets; annotations are counted after forgetting; the sample does not look at it.
abbrev pub pair_cases : List Case
pair_cases =
    judged (pairs 1) pairs_names (c (p (a= 1) (a= 1)) (c (p (a= 2) (a= 2)) n)) 7 true 7
    ∷ judged (pairs 0) pairs_names (c (p (a= 1) (a= 1)) (c (p (a= 2) (a= 2)) n)) 7 false 6
    ∷ judged plain_pairs pairs_names (c (p (a= 1) (a= 1)) (c (p (a= 2) (a= 2)) n)) 7 false 6
    ∷ judged (pairs 1) pairs_names (c (p (a= 1) (a= 2)) n) 5 false 3
    ∷ judged (pairs 0) pairs_names (c (p (a= 1) (a= 1)) n) 4 true 4
    ∷ judged doubled doubled_names (c (a= 1) (c (a= 1) (c (a= 2) (c (a= 2) n)))) 7 true 7
    ∷ judged doubled doubled_names (c (a= 1) (c (a= 2) (c (a= 2) (c (a= 1) n)))) 7 false 4
    ∷ judged doubled doubled_names (c (a= 1) n) 3 false 3
    ∷ judged balanced balanced_names (f a a) 2 true 2
    ∷ judged balanced balanced_names (f (f a a) a) 3 false 2
    ∷ judged balanced balanced_names (f (f a a) (f a a)) 3 true 3
    ∷ judged (readings 1) readings_names (k (f (a= 1) (a= 2))) 4 true 7
    ∷ judged (readings 0) readings_names (k (f (a= 1) (a= 2))) 4 true 8
    ∷ refused (readings 1) readings_names (k (f (a= 1) (a= 2))) 6 31
    ∷ live (pairs 1) pairs_names n 1 1
    ∷ live balanced balanced_names a 1 1
    ∷ unsampled shared 41
    ∷ []

-- the steps a in 0, a in 1, g(a) in 1, g(a) in 0 and the root, of which the second and the third are not used; and a, a and p with unequal parts, then nil
abbrev pub beside_run : List ℕ
beside_run =
    2 ∷ 0 ∷ 65535 ∷ 65535 ∷ 65535 ∷ 65535
    ∷ 3 ∷ 0 ∷ 65535 ∷ 65535 ∷ 65535 ∷ 65535
    ∷ 1 ∷ 1 ∷ 0 ∷ 65535 ∷ 65535 ∷ 65535
    ∷ 0 ∷ 1 ∷ 0 ∷ 65535 ∷ 65535 ∷ 65535
    ∷ 0 ∷ 2 ∷ 3 ∷ 65535 ∷ 65535 ∷ 65535
    ∷ []

abbrev pub unequal_run : List ℕ
unequal_run =
    3 ∷ 0 ∷ 65535 ∷ 65535 ∷ 65535 ∷ 65535
    ∷ 3 ∷ 1 ∷ 65535 ∷ 65535 ∷ 65535 ∷ 65535
    ∷ 0 ∷ 2 ∷ 0 ∷ 1 ∷ 65535 ∷ 65535
    ∷ 2 ∷ 3 ∷ 65535 ∷ 65535 ∷ 65535 ∷ 65535
    ∷ []

-- what the rules of a union or a product of two sets forget, as they are written
abbrev pub union_masks : List ℕ → List ℕ → ℕ → List ℕ
union_masks s t length = map (λ r. r.forget) (decode (combined_space union s t (replicate length 0))).rules

abbrev pub product_masks : List ℕ → List ℕ → ℕ → List ℕ
product_masks s t length = map (λ r. r.forget) (decode (combined_space product s t (replicate length 0))).rules

pub record EqualPairs : Type 0 where
  pub documents : AllHold pair_cases
  -- the total tells how long the rules are; without rules they are those without masks
  pub forms :
      (form_of (pairs 1) ≡ Isolating) × (form_of (pairs 0) ≡ Isolating) × (form_of plain_pairs ≡ Wide) × (bare_in Isolating 1 1 0 ≡ bare_in Wide 1 1 0)
      × (form_of (bare_in Isolating 1 1 0) ≡ Wide)
  pub longest : total_length Isolating 64 256 1024 ≡ 15184
  -- 3 admits the form whole, and no narrow set with such rules; 9 looks at both bytes of a mask; a rule stands once: 7, before 9
  pub checked : (check_of (pairs 1) ≡ 0) × (check_of (pairs 0) ≡ 0) × (check_of plain_pairs ≡ 0) × (check_of (take 84 (pairs 1)) ≡ 3) × (check_of (pairs 1 ++ 0 ∷ []) ≡ 3)
  pub narrow : check_of (take 14 set_e ++ 65 ∷ 0 ∷ drop 16 set_e ++ replicate 6 0) ≡ 3
  pub masks : (check_of (pairs 2) ≡ 9) × (check_of (pairs 3) ≡ 9) × (check_of (pairs 256) ≡ 9) × (check_of twice ≡ 7)
  -- a test tells sets that forget, whatever their form
  pub forgets : (forgets_nothing? (decode (pairs 1)) ≡ false) × (forgets_nothing? (decode (pairs 0)) ≡ true) × (forgets_nothing? (decode plain_pairs) ≡ true)
  -- P is an isolating automaton of source document 000: each tag has exactly one state, and no state two tags
  pub source : (papers? (decode (pairs 1)) ≡ true) × (papers? (decode doubled) ≡ true) × (papers? (decode balanced) ≡ true)
  -- 24 is a clash at a step, used or not, before 25 and 26; steps that no one step sees together do not clash
  pub steps :
      (check_run_of beside (cells_from beside g_names (g (g a))) beside_run ≡ 26)
      × (check_run_of (pairs 1) (cells_from (pairs 1) pairs_names (c (p (a= 1) (a= 2)) n)) unequal_run ≡ 24)
  -- union and product have masks where either set has, the second's shifted; a rule of a product forgets what either of its rules forgets
  pub unions :
      (combined_of union (pairs 1) (pairs 1) (junk 150) ≡ gives 150) × (combined_of union plain_pairs (pairs 0) (junk 150) ≡ gives 150)
      × (combined_of union plain_pairs plain_pairs (junk 134) ≡ gives 134) × (combined_of union (pairs 1) plain_pairs (junk 149) ≡ refuses 53)
      × (union_masks (pairs 1) (pairs 1) 150 ≡ 1 ∷ 2 ∷ 0 ∷ 0 ∷ 0 ∷ 0 ∷ 0 ∷ 0 ∷ [])
  pub products :
      (combined_of product (pairs 1) (pairs 1) (junk 103) ≡ gives 103) × (combined_of product plain_pairs plain_pairs (junk 95) ≡ gives 95)
      × (product_masks (pairs 1) (pairs 1) 103 ≡ 3 ∷ 0 ∷ 0 ∷ 0 ∷ []) × (product_masks (pairs 1) plain_pairs 103 ≡ 1 ∷ 0 ∷ 0 ∷ 0 ∷ [])
      × (product_masks plain_pairs (pairs 1) 103 ≡ 2 ∷ 0 ∷ 0 ∷ 0 ∷ [])
  -- narrowing a set with such rules, and widening one, is 18, behind 9; without rules a wide set is narrowed
  pub moved :
      (moved_of Wide Narrow (pairs 1) [] ≡ refuses 18) × (moved_of Wide Narrow (pairs 2) [] ≡ refuses 9) × (moved_of Narrow Wide (pairs 0) [] ≡ refuses 18)
      × (moved_of Wide Narrow (bare_in Isolating 1 1 8) (junk 19) ≡ gives 19)
