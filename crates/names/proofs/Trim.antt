-- A line without the spaces and bytes 13 at its end: what is cut off and what is kept, and the loop that looks from the end. Assumes nothing.
use mathlib.Core.Path.{◌≡◌, refl, sym, ap, ◌∙◌}
use mathlib.Core.Bool.{Bool, true, false}
use mathlib.Core.List.{List, [], ◌∷◌, ◌++◌, append-nil}
use Prim.Native.Nat.{ℕ, suc, ◌-◌, ◌<◌, ◌≤◌}
use native.Mathlib.Omega.{arith}
use borrow.Author.Rules.{rules}
use lib.ListN.{length, get_or, take}
use lib.Seq.{take-suc, take_all, append_snoc, length-take-le}
use Rattle.classes.proofs.Members.{bytes_with}
use Rattle.names.specs.Lines.{blank?, keep, trimmed}
use Rattle.names.specs.Saved.{blanks?}
use Rattle.names.proofs.Tests.{and_true}

-- which bytes are cut off, of all bytes
pub blank_bytes : bytes_with blank? ≡ 13 ∷ 32 ∷ []
unfolding blank?
blank_bytes = refl

keep_some : (y : ℕ) (l : List ℕ) (x : ℕ) → keep y (l ++ x ∷ []) ≡ y ∷ l ++ x ∷ []
keep_some y [] x = refl
keep_some y (z ∷ l) x = refl

-- a blank byte at the end is cut off; any other stays, and all before it
pub cut_off : (l : List ℕ) (x : ℕ) → blank? x ≡ true → trimmed (l ++ x ∷ []) ≡ trimmed l
unfolding trimmed
cut_off [] x h = rw h
cut_off (y ∷ l) x h = ap (keep y) (cut_off l x h)

pub kept : (l : List ℕ) (x : ℕ) → blank? x ≡ false → trimmed (l ++ x ∷ []) ≡ l ++ x ∷ []
unfolding trimmed
kept [] x h = rw h
kept (y ∷ l) x h = ap (keep y) (kept l x h) ∙ keep_some y l x

-- blank bytes at the end are cut off, however many
pub all_cut_off : (l end : List ℕ) → blanks? end ≡ true → trimmed (l ++ end) ≡ trimmed l
all_cut_off l [] h = ap trimmed (append-nil l)
all_cut_off l (x ∷ end) h =
    let both = and_true (blank? x) (blanks? end) h in
    ap trimmed (sym (append_snoc l x end)) ∙ all_cut_off (l ++ x ∷ []) end both.1 ∙ cut_off l x both.0

-- and nothing else is cut off: behind what is left stood only such bytes
pub cut_blank : (l : List ℕ) → (end : List ℕ) × (l ≡ trimmed l ++ end) × (blanks? end ≡ true)
unfolding trimmed
cut_blank [] = ([], refl, refl)
cut_blank (x ∷ xs) = let v = cut_blank xs in go (trimmed xs) v.0 v.1 v.2 (blank? x) refl
  where
    go : (t end : List ℕ) → xs ≡ t ++ end → blanks? end ≡ true → (b : Bool) → blank? x ≡ b
        → (end' : List ℕ) × (x ∷ xs ≡ keep x t ++ end') × (blanks? end' ≡ true)
    go (y ∷ l) end e h b is = (end, ap (λ r. x ∷ r) e, h)
    go [] end e h true is = (x ∷ end, rw is (ap (λ r. x ∷ r) e), rw (is, h))
    go [] end e h false is = (end, rw is (ap (λ r. x ∷ r) e), h)

-- at the loop's head: what is behind e is cut off
pub record Trimming (l : List ℕ) (e : ℕ) : Type 0 where
  pub inside : e ≤ length l
  pub same : trimmed (take e l) ≡ trimmed l

module _ (l : List ℕ) where
  pub trim_none : Trimming l (length l)
  trim_none = record { inside = omega arith; same = ap trimmed (take_all (length l) l (omega arith)) }

  module _ (e : ℕ) (v : Trimming l e) where
    pub trim_long : e ≡ length (take e l)
    trim_long = sym (length-take-le e l v.inside)

    last_apart : 0 < e → take e l ≡ take (e - 1) l ++ get_or l (e - 1) 0 ∷ []
    last_apart h =
        let s : e ≡ suc (e - 1) = omega arith in
        ap (λ n. take n l) s ∙ take-suc l (e - 1) 0 (omega (arith, v.inside))

    module _ (some : 0 < e) (b : Bool) (is : b ≡ blank? (get_or l (e - 1) 0)) where
      pub trim_more : b ≡ true → Trimming l (e - 1)
      trim_more t = record {
        inside = omega (arith, v.inside);
        same = sym (cut_off (take (e - 1) l) (get_or l (e - 1) 0) (sym is ∙ t)) ∙ ap trimmed (sym (last_apart some)) ∙ v.same;
      }

      pub trim_stop : b ≡ false → take e l ≡ trimmed l
      trim_stop f =
          last_apart some ∙ sym (kept (take (e - 1) l) (get_or l (e - 1) 0) (sym is ∙ f)) ∙ ap trimmed (sym (last_apart some)) ∙ v.same

    pub trim_end : e ≤ 0 → take e l ≡ trimmed l
    unfolding trimmed
    trim_end h = let z : e ≡ 0 = omega arith in ap (λ n. take n l) z ∙ sym (ap (λ n. trimmed (take n l)) z) ∙ v.same

pub ruleset trimming = (trim_none, trim_long, trim_more, trim_stop, trim_end, rules)
