-- The key list of a site (document 02, Wish 1: 74). Assumes nothing.
use Rattle.std.specs.Prelude.{List, [], ◌∷◌, Bool, true, ◌&&◌, not, cond, ℕ, suc, leb, length}
use Rattle.std.proofs.Math.Option.{Option, none, some, map}
use Rattle.model.specs.Lists.{any, eq_list}
use Rattle.names.specs.Lines.{lines}

-- the most keys, and the most bytes of one
abbrev pub max_keys : ℕ
max_keys = 56

abbrev pub max_key : ℕ
max_key = 64

-- 1 to 64 bytes
unfoldable pub key? : List ℕ → Bool
key? l = leb 1 (length l) && leb (length l) max_key

-- each is a key, and none stands again behind it
unfoldable pub apart? : List (List ℕ) → Bool
apart? [] = true
apart? (l ∷ ls) = key? l && (not (any (eq_list l) ls) && apart? ls)

-- 74: at most 56 lines, each of 1 to 64 bytes, no two equal
unfoldable pub keys_fit? : List ℕ → Bool
keys_fit? list = leb (length (lines list)) max_keys && apart? (lines list)

-- the first of some texts that is these bytes
unfoldable pub find_text : List ℕ → List (List ℕ) → Option ℕ
find_text bs [] = none
find_text bs (x ∷ xs) = cond (eq_list bs x) (some 0) (map suc (find_text bs xs))
