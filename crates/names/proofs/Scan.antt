-- The scan for a line's end, and what a line's start and end tell of the lines. Assumes nothing.
use mathlib.Core.Path.{◌≡◌, refl, sym, ap, ◌∙◌}
use mathlib.Core.Bool.{Bool, true, false}
use mathlib.Core.List.{List, [], ◌∷◌, ◌++◌, append-nil}
use Prim.Native.Nat.{ℕ, zero, suc, ◌+◌, ◌-◌, ◌<◌, ◌≤◌, min}
use native.Mathlib.Nat.{add-zero}
use native.Mathlib.Numerals.{add-one}
use native.Mathlib.Omega.{arith}
use borrow.Author.Rules.{rules}
use borrow.Author.Tests.{eq-eqb, ne_eqb}
use lib.Dec.{eqb}
use lib.ListN.{length, get_or, take, drop, length-drop, drop_of_length-le, get_or-eq_default}
use lib.Seq.{drop-cons, take-suc, get_or-drop, append_snoc, drop-drop, drop-nil, take_all}
use Rattle.names.specs.Lines.{lines, lengthen, trimmed, line_at, line_count, newline}
use Rattle.names.specs.Places.{Ended, Starts}
use Rattle.names.specs.Names.{unless_empty, name_of}

pub cut : (s : List ℕ) (i : ℕ) → i < length s → drop i s ≡ get_or s i 0 ∷ drop (i + 1) s
cut s i h = rw (add-one, drop-cons s i 0)

first_longer : (x : ℕ) (ls : List (List ℕ)) → get_or (lengthen x ls) 0 [] ≡ x ∷ get_or ls 0 []
first_longer x [] = refl
first_longer x (l ∷ ls) = refl

rest_longer : (x : ℕ) (ls : List (List ℕ)) → drop 1 (lengthen x ls) ≡ drop 1 ls
rest_longer x [] = refl
rest_longer x (l ∷ ls) = refl

module _ (s : List ℕ) (i : ℕ) (h : i < length s) where
  -- a byte of the line, and the byte that ends it
  inner : (get_or s i 0 ≡ newline → ⊥) → lines (drop i s) ≡ lengthen (get_or s i 0) (lines (drop (i + 1) s))
  unfolding lines
  inner n = ap lines (cut s i h) ∙ rw (lines, ne_eqb _ _ n)

  last : get_or s i 0 ≡ newline → lines (drop i s) ≡ [] ∷ lines (drop (i + 1) s)
  unfolding lines
  last e = ap lines (cut s i h) ∙ rw (lines, eq-eqb _ _ e)

  one_more : (a : ℕ) (ys : List ℕ) → a ≤ i → take (i - a) (drop a s) ++ get_or s i 0 ∷ ys ≡ take (i + 1 - a) (drop a s) ++ ys
  one_more a ys k =
      let e : i + 1 - a ≡ suc (i - a) = omega arith in
      let g : a + (i - a) ≡ i = omega arith in
      sym (ap (λ n. take n (drop a s) ++ ys) e
      ∙ ap (λ l. l ++ ys) (take-suc (drop a s) (i - a) 0 (rw length-drop (omega arith)))
      ∙ append_snoc (take (i - a) (drop a s)) (get_or (drop a s) (i - a) 0) ys
      ∙ ap (λ x. take (i - a) (drop a s) ++ x ∷ ys) (get_or-drop a s (i - a) 0 ∙ ap (λ n. get_or s n 0) g))

some_line : (x : ℕ) (xs : List ℕ) → 0 < length (lines (x ∷ xs))
unfolding lines
some_line x xs = go (eqb x newline)
  where
    longer : (ls : List (List ℕ)) → 0 < length (lengthen x ls)
    longer [] = omega arith
    longer (l ∷ ls) = omega arith

    go : (t : Bool) → 0 < length {A = List ℕ} (elim t [ true ↦ [] ∷ lines xs | false ↦ lengthen x (lines xs) ])
    go true = omega arith
    go false = longer (lines xs)

pub some_first : (l o : List ℕ) → 0 < length l → l ≡ unless_empty l o
some_first [] o h = absurd (omega arith)
some_first (x ∷ xs) o h = refl

pub none_first : (l o : List ℕ) → length l ≡ 0 → o ≡ unless_empty l o
none_first [] o h = refl
none_first (x ∷ xs) o h = absurd (omega arith)

-- at the loop's head: the line that starts at a has come to i
pub record Scanned (s : List ℕ) (a i : ℕ) : Type 0 where
  pub from : a ≤ i
  pub inside : i ≤ length s
  pub line : take (i - a) (drop a s) ++ get_or (lines (drop i s)) 0 [] ≡ get_or (lines (drop a s)) 0 []
  pub behind : drop 1 (lines (drop i s)) ≡ drop 1 (lines (drop a s))

pub scan_none : (s : List ℕ) (a : ℕ) → a ≤ length s → Scanned s a a
scan_none s a h =
    let z : a - a ≡ 0 = omega arith in
    record { from = omega arith; inside = h; line = ap (λ n. take n (drop a s) ++ get_or (lines (drop a s)) 0 []) z; behind = refl }

module _ (s : List ℕ) (a i : ℕ) (v : Scanned s a i) where
  pub scan_more : i < length s → (get_or s i 0 ≡ 10 → ⊥) → Scanned s a (i + 1)
  scan_more h n = record {
    from = omega (arith, v.from);
    inside = omega arith;
    line =
        sym (one_more s i h a (get_or (lines (drop (i + 1) s)) 0 []) v.from)
        ∙ ap (λ l. take (i - a) (drop a s) ++ l) (sym (ap (λ ls. get_or ls 0 []) (inner s i h n) ∙ first_longer (get_or s i 0) (lines (drop (i + 1) s))))
        ∙ v.line;
    behind = sym (ap (drop 1) (inner s i h n) ∙ rest_longer (get_or s i 0) (lines (drop (i + 1) s))) ∙ v.behind;
  }

  pub scan_stop : i < length s → get_or s i 0 ≡ 10 → Ended s a i
  scan_stop h e = record {
    from = v.from;
    inside = v.inside;
    line = sym (append-nil _) ∙ ap (λ l. take (i - a) (drop a s) ++ l) (sym (ap (λ ls. get_or ls 0 []) (last s i h e))) ∙ v.line;
    behind = sym (ap (drop 1) (last s i h e)) ∙ v.behind;
  }

  pub scan_end : length s ≤ i → Ended s a i
  unfolding lines
  scan_end h =
      let d : drop i s ≡ [] = drop_of_length-le s h in
      let j : length s ≤ i + 1 = omega arith in
      let d' : drop (i + 1) s ≡ [] = drop_of_length-le s j in
      record {
        from = v.from;
        inside = v.inside;
        line = sym (append-nil _) ∙ ap (λ l. take (i - a) (drop a s) ++ get_or (lines l) 0 []) (sym d) ∙ v.line;
        behind = ap lines d' ∙ ap (λ l. drop 1 (lines l)) (sym d) ∙ v.behind;
      }

-- the end of the list stands for every place behind it
pub drop_inside : (s : List ℕ) (k : ℕ) → drop (min k (length s)) s ≡ drop k s
drop_inside [] k = let e : min k 0 ≡ 0 = omega arith in ap (λ n. drop n []) e ∙ sym (drop-nil k)
drop_inside (x ∷ s) zero = let e : min 0 (suc (length s)) ≡ 0 = omega arith in ap (λ n. drop n (x ∷ s)) e
drop_inside (x ∷ s) (suc k) =
    let e : min (suc k) (suc (length s)) ≡ suc (min k (length s)) = omega arith in
    ap (λ n. drop n (x ∷ s)) e ∙ drop_inside s k

pub starts_first : (s : List ℕ) → Starts s 0 0
starts_first s = record { inside = omega arith; lines_from = refl }

module _ (s : List ℕ) (i a : ℕ) (v : Starts s i a) where
  pub starts_next : (e r : ℕ) → Ended s a e → r ≡ min (e + 1) (length s) → Starts s (i + 1) r
  starts_next e r w is = record {
    inside = omega arith;
    lines_from = ap (λ n. lines (drop n s)) is ∙ ap lines (drop_inside s (e + 1)) ∙ w.behind ∙ ap (drop 1) v.lines_from ∙ drop-drop 1 i (lines s);
  }

  -- the first line of what is left is line i
  pub line_from : line_at (drop a s) 0 ≡ line_at s i
  unfolding line_at
  line_from = ap trimmed (ap (λ ls. get_or ls 0 []) v.lines_from ∙ get_or-drop i (lines s) 0 [] ∙ ap (λ n. get_or (lines s) n []) (add-zero i))

  -- and so it is of the part from a on
  pub line_left : line_at (take (length s - a) (drop a s)) 0 ≡ line_at s i
  line_left = ap (λ l. line_at l 0) (take_all (length s - a) (drop a s) (rw length-drop (omega arith))) ∙ line_from

  -- the line that ends at e, trimmed, is line i
  pub line_is : (e : ℕ) → Ended s a e → trimmed (take (e - a) (drop a s)) ≡ line_at s i
  unfolding line_at
  line_is e w = ap trimmed w.line ∙ line_from

  left_over : length (lines (drop a s)) ≡ length (lines s) - i
  left_over = ap length v.lines_from ∙ length-drop i (lines s)

  -- no line is left at the list's end, and one is before it
  pub none_left : length s ≤ a → line_count s ≤ i
  unfolding lines line_count
  none_left h =
      let e : length (lines s) - i ≡ 0 = sym left_over ∙ ap (λ l. length (lines l)) (drop_of_length-le s h) in
      omega arith

  pub one_left : a < length s → i < line_count s
  unfolding line_count
  one_left h =
      let e = ap (λ l. length (lines l)) (cut s a h) in
      let p = some_line (get_or s a 0) (drop (a + 1) s) in
      omega (arith, left_over)

  pub starts_late : (k : ℕ) → length s ≤ a → i ≤ k → Starts s k a
  unfolding lines line_count
  starts_late k h l =
      let n : length (lines s) ≤ k = omega (arith, none_left h) in
      record { inside = v.inside; lines_from = ap lines (drop_of_length-le s h) ∙ sym (drop_of_length-le (lines s) n) }

-- behind the last line there is none
pub no_line : (s : List ℕ) (i : ℕ) → line_count s ≤ i → line_at s i ≡ []
unfolding trimmed line_at line_count
no_line s i h = ap trimmed (get_or-eq_default (lines s) [] h)

-- what is left of two lists where line i starts has for symbol 0 the name of symbol i
pub name_from : (site built_in : List ℕ) (i a b : ℕ) → Starts site i a → Starts built_in i b
    → name_of (take (length site - a) (drop a site)) (take (length built_in - b) (drop b built_in)) 0 ≡ name_of site built_in i
unfolding name_of
name_from site built_in i a b v w = cc (line_left site i a v, line_left built_in i b w)

-- a line with bytes is taken from the first list, one without from the second
module _ (site built_in own : List ℕ) (i : ℕ) (is : own ≡ line_at site i) where
  pub name_first : 0 < length own → own ≡ name_of site built_in i
  unfolding name_of
  name_first h = some_first own (line_at built_in i) h ∙ ap (λ l. unless_empty l (line_at built_in i)) is

  pub name_second : (r : List ℕ) → length own ≤ 0 → r ≡ line_at built_in i → r ≡ name_of site built_in i
  unfolding name_of
  name_second r h e = e ∙ none_first own (line_at built_in i) (omega arith) ∙ ap (λ l. unless_empty l (line_at built_in i)) is

pub ruleset scanning = (scan_none, scan_more, scan_stop, scan_end, starts_first, starts_next, starts_late, line_is, name_first, name_second, rules)
