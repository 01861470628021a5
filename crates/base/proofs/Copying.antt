-- Items copied one by one to a place of a space: what a loop knows at its head. Assumes nothing.
use mathlib.Core.Path.{◌≡◌, refl, sym, ap, ◌∙◌}
use mathlib.Core.List.{List, ◌++◌}
use Prim.Native.Nat.{ℕ, ◌+◌, ◌<◌, ◌≤◌}
use native.Mathlib.Nat.{le_antisymm}
use native.Mathlib.Numerals.{add-one}
use native.Mathlib.Omega.{arith}
use borrow.Author.Rules.{rules}
use lib.ListN.{length, get_or, take, drop, set, length-set}
use lib.Seq.{paste, paste-zero, paste-suc, take-length}
use Rattle.model.specs.Space.{put_at}
use Rattle.model.proofs.Space.{put_fits, put_not}

-- i of them are copied
pub record Copied {A : Type 0} (d : List A) (at : ℕ) (s : List A) (i : ℕ) (now : List A) : Type 0 where
  pub fits : at + length s ≤ length d
  pub inside : i ≤ length s
  pub long : length now ≡ length d
  pub is : now ≡ paste d at s i

module _ {A : Type 0} (d : List A) (at : ℕ) (s : List A) where
  pub copied_none : at + length s ≤ length d → Copied d at s 0 d
  copied_none h = record { fits = h; inside = omega arith; long = refl; is = paste-zero d at s }

  pub copied_more : (i : ℕ) (z : A) (now : List A) → Copied d at s i now → i < length s → Copied d at s (i + 1) (set now (at + i) (get_or s i z))
  copied_more i z now v h =
      let k : at + i < length d = omega (arith, v.fits) in
      record {
        fits = v.fits;
        inside = omega arith;
        long = length-set now (at + i) (get_or s i z) ∙ v.long;
        is = ap (λ l. set l (at + i) (get_or s i z)) v.is ∙ paste-suc d at s i z k h ∙ ap (paste d at s) (sym (add-one i));
      }

  pub copied_all : (i : ℕ) (now : List A) → Copied d at s i now → length s ≤ i → now ≡ put_at d at s
  copied_all i now v h =
      v.is ∙ ap (paste d at s) (le_antisymm v.inside h) ∙ ap (λ l. take at d ++ l ++ drop (at + length s) d) (take-length s) ∙ sym (put_fits d at s v.fits)

  pub not_copied : length d < at + length s → d ≡ put_at d at s
  not_copied h = sym (put_not d at s h)

pub ruleset copying = (copied_none, copied_more, copied_all, not_copied, rules)
