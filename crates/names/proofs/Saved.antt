-- Two lists that differ only in the spaces and bytes 13 at the ends of their lines show the same names, and the check says the same of them; a list and the same list with Windows' line ends are two such lists. Assumes nothing.
use mathlib.Core.Path.{◌≡◌, refl, sym, ap, subst, ◌∙◌, fun_ext}
use mathlib.Core.Bool.{Bool, true, false, ◌&&◌}
use mathlib.Core.List.{List, [], ◌∷◌, ◌++◌, append-nil}
use Prim.Native.Nat.{ℕ, zero, suc}
use native.Mathlib.Omega.{arith}
use lib.Dec.{eqb, leb}
use lib.ListN.{length, get_or}
use Rattle.model.specs.Limits.{max_symbols}
use Rattle.model.specs.Lists.{all_below}
use Rattle.names.specs.Lines.{newline, lengthen, lines, blank?, trimmed, line_at, line_count}
use Rattle.names.specs.Names.{unless_empty, name_of, default_name, shown_name}
use Rattle.names.specs.Check.{line_fits?, list_fits?, names_check_of}
use Rattle.names.specs.Saved.{SameLine, SameLines, SavedAlike, on_windows}
use Rattle.names.proofs.Trim.{all_cut_off, cut_blank}

-- two lines differ only there exactly when they are the same once trimmed
module _ (l l' : List ℕ) where
  same_trimmed : SameLine l l' → trimmed l ≡ trimmed l'
  same_trimmed v =
      ap trimmed v.first ∙ all_cut_off v.stem v.end v.blank ∙ sym (all_cut_off v.stem v.end' v.blank') ∙ sym (ap trimmed v.second)

  trimmed_same : trimmed l ≡ trimmed l' → SameLine l l'
  trimmed_same e =
      let v = cut_blank l in
      let w = cut_blank l' in
      record { stem = trimmed l; end = v.0; end' = w.0; first = v.1; second = w.1 ∙ ap (λ t. t ++ w.0) (sym e); blank = v.2; blank' = w.2 }

  pub same_exactly : (SameLine l l' → trimmed l ≡ trimmed l') × (trimmed l ≡ trimmed l' → SameLine l l')
  same_exactly = (same_trimmed, trimmed_same)

same_line : (ls ls' : List (List ℕ)) → SameLines ls ls' → (i : ℕ) → trimmed (get_or ls i []) ≡ trimmed (get_or ls' i [])
same_line [] [] v i = refl
same_line [] (l' ∷ ls') v i = absurd v
same_line (l ∷ ls) [] v i = absurd v
same_line (l ∷ ls) (l' ∷ ls') v zero = same_trimmed l l' v.0
same_line (l ∷ ls) (l' ∷ ls') v (suc i) = same_line ls ls' v.1 i

same_count : (ls ls' : List (List ℕ)) → SameLines ls ls' → length ls ≡ length ls'
same_count [] [] v = refl
same_count [] (l' ∷ ls') v = absurd v
same_count (l ∷ ls) [] v = absurd v
same_count (l ∷ ls) (l' ∷ ls') v = ap suc (same_count ls ls' v.1)

module _ (s s' : List ℕ) (v : SavedAlike s s') where
  pub same_lines : line_at s ≡ line_at s'
  unfolding line_at
  same_lines = fun_ext (same_line (lines s) (lines s') v)

  pub same_fit : list_fits? s ≡ list_fits? s'
  unfolding list_fits? line_count
  same_fit =
      ap (λ n. leb n max_symbols && all_below n (λ i. line_fits? (line_at s i))) (same_count (lines s) (lines s') v)
      ∙ ap (λ line. leb (line_count s') max_symbols && all_below (line_count s') (λ i. line_fits? (line i))) same_lines

like_lines : (ls ls' : List (List ℕ)) → length ls ≡ length ls' → ((i : ℕ) → trimmed (get_or ls i []) ≡ trimmed (get_or ls' i [])) → SameLines ls ls'
like_lines [] [] n h = tt
like_lines [] (l' ∷ ls') n h = absurd (omega arith)
like_lines (l ∷ ls) [] n h = absurd (omega arith)
like_lines (l ∷ ls) (l' ∷ ls') n h = (trimmed_same l l' (h 0), like_lines ls ls' (omega arith) (λ i. h (suc i)))

-- two lists differ only there exactly when they have as many lines, and these are the same once trimmed
pub alike_exactly : (s s' : List ℕ) → (SavedAlike s s' → (line_count s ≡ line_count s') × (line_at s ≡ line_at s'))
    × ((line_count s ≡ line_count s') × (line_at s ≡ line_at s') → SavedAlike s s')
unfolding line_at line_count
alike_exactly s s' = (
  λ v. (same_count (lines s) (lines s') v, same_lines s s' v),
  λ e. like_lines (lines s) (lines s') e.0 (λ i. ap (λ line. line i) e.1),
)

-- both lists saved in two ways
module _ (site site' built_in builtIn' : List ℕ) (v : SavedAlike site site') (w : SavedAlike built_in builtIn') where
  -- the same name for each symbol
  pub same_names : shown_name site built_in ≡ shown_name site' builtIn'
  unfolding shown_name name_of
  same_names =
      ap (λ own i. unless_empty (unless_empty (own i) (line_at built_in i)) (default_name i)) (same_lines site site' v)
      ∙ ap (λ other i. unless_empty (unless_empty (line_at site' i) (other i)) (default_name i)) (same_lines built_in builtIn' w)

  -- the same answer of the check
  pub same_check : (symbols : ℕ) → names_check_of symbols site built_in ≡ names_check_of symbols site' builtIn'
  unfolding names_check_of
  same_check symbols = cc (same_fit site site' v, same_fit built_in builtIn' w, same_names)

-- a line is like itself, and so is a list
line_refl : (l : List ℕ) → SameLine l l
line_refl l = let e = sym (append-nil l) in record { stem = l; end = []; end' = []; first = e; second = e; blank = refl; blank' = refl }

pub alike_refl : (s : List ℕ) → SavedAlike s s
alike_refl s = go (lines s)
  where
    go : (ls : List (List ℕ)) → SameLines ls ls
    go [] = tt
    go (l ∷ ls) = (line_refl l, go ls)

-- lines that are alike stay so with one more byte in front of the first
alike_longer : (x : ℕ) (ls ls' : List (List ℕ)) → SameLines ls ls' → SameLines (lengthen x ls) (lengthen x ls')
alike_longer x [] [] v = (line_refl (x ∷ []), tt)
alike_longer x [] (l' ∷ ls') v = absurd v
alike_longer x (l ∷ ls) [] v = absurd v
alike_longer x (l ∷ ls) (l' ∷ ls') v =
    let w = v.0 in
    (record { stem = x ∷ w.stem; end = w.end; end' = w.end'; first = ap (λ r. x ∷ r) w.first; second = ap (λ r. x ∷ r) w.second; blank = w.blank; blank' = w.blank' }, v.1)

-- with Windows' line ends a list is the same but for the ends of its lines
pub windows_alike : (s : List ℕ) → SavedAlike s (on_windows s)
unfolding blank? lines on_windows
windows_alike [] = tt
windows_alike (x ∷ xs) = go (eqb x newline) refl (windows_alike xs)
  where
    ended : SameLine [] (13 ∷ [])
    ended = record { stem = []; end = []; end' = 13 ∷ []; first = refl; second = refl; blank = refl; blank' = refl }

    go : (t : Bool) → eqb x newline ≡ t → SavedAlike xs (on_windows xs)
        → SameLines (elim t [ true ↦ [] ∷ lines xs | false ↦ lengthen x (lines xs) ]) (lines (elim t [ true ↦ 13 ∷ newline ∷ on_windows xs | false ↦ x ∷ on_windows xs ]))
    go true e v = (ended, v)
    go false e v =
        subst (λ t. SameLines (lengthen x (lines xs)) (elim t [ true ↦ [] ∷ lines (on_windows xs) | false ↦ lengthen x (lines (on_windows xs)) ])) (sym e)
        (alike_longer x (lines xs) (lines (on_windows xs)) v)
