-- Bytes at places of a text and tests on them, for the productions, and what is said of anything that was read. Assumes nothing.
use mathlib.Core.Path.{◌≡◌, refl, sym, ap, ◌∙◌}
use mathlib.Core.Bool.{Bool, true, false, ◌&&◌, ◌||◌}
use mathlib.Core.List.Memᴰ.{head as here}
use mathlib.Core.List.Memᴰ.{tail as there}
use mathlib.Core.List.{List, [], ◌∷◌, Memᴰ as In}
use Prim.Native.Nat.{ℕ, zero, suc, ◌<◌, ◌≤◌}
use native.Mathlib.Omega.{arith}
use borrow.Author.Tests.{leb-true, leb-false, le-leb, lt-leb, lt-ltb, eq-eqb}
use lib.Dec.{eqb, leb, ltb}
use lib.ListN.{length}
use Rattle.model.specs.Lists.{any}
use Rattle.base.specs.Text.{byte_at, Got, got, fault}
use Rattle.jsontext.specs.Utf8.{between}

pub never : {A : Type 0} → true ≡ false → A
never e = let z : ◌≡◌ {A = ℕ} 0 1 = cc in absurd (omega arith)

-- a byte that passes a test stands inside, unless 0 passes it
pub stands : (t : List ℕ) (i : ℕ) (p : ℕ → Bool) → p 0 ≡ false → p (byte_at t i) ≡ true → i < length t
stands [] i p none e = never (sym e ∙ none)
stands (x ∷ xs) zero p none e = omega arith
stands (x ∷ xs) (suc i) p none e = let k = stands xs i p none e in omega arith

pub stands_above : (t : List ℕ) (i : ℕ) → 0 < byte_at t i → i < length t
stands_above t i h = stands t i (ltb 0) refl (lt-ltb 0 (byte_at t i) h)

pub stands_as : (t : List ℕ) (i b : ℕ) → eqb 0 b ≡ false → byte_at t i ≡ b → i < length t
stands_as t i b other e = stands t i (λ x. eqb x b) other (eq-eqb _ _ e)

pub both : (a b : Bool) → (a && b) ≡ true → (a ≡ true) × (b ≡ true)
both true b e = (refl, e)
both false b e = never (sym e)

pub either : {C : Type 0} (a b : Bool) → (a ≡ true → C) → (b ≡ true → C) → (a || b) ≡ true → C
either true b f g h = f refl
either false b f g h = g h

pub neither : (a b : Bool) → (a || b) ≡ false → (a ≡ false) × (b ≡ false)
neither true b e = never e
neither false b e = (refl, e)

-- none of a list
pub none_of : {A : Type 0} (p : A → Bool) {x : A} {xs : List A} → any p xs ≡ false → In x xs → p x ≡ false
none_of p {x = x} none (here {x = y} {xs = xs} e) = ap p e ∙ (neither (p y) (any p xs) none).0
none_of p none (there {x = y} {xs = xs} h) = none_of p (neither (p y) (any p xs) none).1 h

-- a test between two bounds
module _ (lo hi b : ℕ) where
  pub in_range : between lo hi b ≡ true → (lo ≤ b) × (b ≤ hi)
  in_range e = let (p, q) = both (leb lo b) (leb b hi) e in (leb-true lo b p, leb-true b hi q)

  pub range_in : lo ≤ b → b ≤ hi → between lo hi b ≡ true
  range_in p q = rw (le-leb lo b p, le-leb b hi q)

  pub range_below : b < lo → between lo hi b ≡ false
  range_below p = rw (lt-leb lo b p)

  pub range_above : hi < b → between lo hi b ≡ false
  range_above q = go (leb lo b)
    where
      go : (a : Bool) → (a && leb b hi) ≡ false
      go true = lt-leb b hi q
      go false = refl

  pub past_range : between lo hi b ≡ false → lo ≤ b → hi < b
  past_range e p = leb-false b hi (rw (le-leb lo b p) at e)

-- what was read, with the place after it, is as P says
pub data Reads {A : Type 0} (P : A → ℕ → Type 0) : Got A → Type 0 where
  reads : {v : A} {e : ℕ} → P v e → Reads P (got v e)
  none_read : {p : ℕ} → Reads P (fault p)

module _ {A : Type 0} (P : A → ℕ → Type 0) where
  pub read_is : (v : A) (e : ℕ) {g : Got A} → g ≡ got v e → Reads P g → P v e
  read_is v e q (reads {v = w} {e = f} h) = let y : w ≡ v = cc in let z : f ≡ e = cc in rw (y, z) at h
  read_is v e q none_read = let z : ◌≡◌ {A = ℕ} 0 1 = cc in absurd (omega arith)

  pub read_as : (Q : A → ℕ → Type 0) {g : Got A} → ((v : A) (e : ℕ) → P v e → Q v e) → Reads P g → Reads Q g
  read_as Q f (reads h) = reads (f _ _ h)
  read_as Q f none_read = none_read
