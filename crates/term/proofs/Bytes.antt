-- Bytes at places of a text: what a byte that some rule allows says of its place, and the classes of bytes. Assumes nothing.
use mathlib.Core.Path.{◌≡◌, refl, sym, ap, ◌∙◌}
use mathlib.Core.Bool.{Bool, true, false, ◌&&◌, ◌||◌}
use mathlib.Core.List.{List}
use Prim.Native.Nat.{ℕ, ◌+◌, ◌-◌, ◌<◌, ◌≤◌}
use native.Mathlib.Omega.{arith}
use lib.Dec.{leb}
use lib.ListN.{length, get_or}
use Rattle.classes.specs.Classes.{either_hex_digit?}
use Rattle.classes.proofs.Ranges.{either, between}
pub use Rattle.classes.proofs.Ranges.{letter_range, digit_range}
use Rattle.model.specs.Lists.{tab}
use Rattle.model.proofs.Tab.{tab_at}
use Rattle.base.proofs.Bytes.{class_inside}
use Rattle.names.specs.Names.{letter?, digit?, name_byte?}
use Rattle.term.specs.Scan.{byte_at, hex_digit?, hex_value}

-- of bytes, a hex digit of either case that is a digit or a letter is a lowercase one: computed over every byte
lowercase : tab 256 (λ b. either_hex_digit? b && (letter? b || digit? b)) ≡ tab 256 hex_digit?
unfolding either_hex_digit? digit? letter? hex_digit?
lowercase = refl

pub lower_hex : (b : ℕ) → b < 256 → (hex either : Bool) → hex ≡ either_hex_digit? b → either ≡ (letter? b || digit? b) → (hex && either) ≡ hex_digit? b
lower_hex b h hex either eh ee =
    rw (eh, ee) (sym (tab_at false 256 (λ n. either_hex_digit? n && (letter? n || digit? n)) b h) ∙ ap (λ (l : List Bool). get_or l b false) lowercase ∙ tab_at false 256 hex_digit? b h)

pub hex_above : (b : ℕ) → hex_digit? b ≡ true → 48 ≤ b
unfolding hex_digit?
hex_above b = either (digit? b) (leb 97 b && leb b 102) (λ e. let r = digit_range b e in omega arith) (λ e. let r = between 97 102 b e in omega arith)

-- the value of a hex digit: of one that is a digit, and of one that is not
module _ (b : ℕ) where
  pub low_hex : digit? b ≡ true → (48 ≤ b) × (b - 48 ≡ hex_value b) × (b - 48 < 16)
  unfolding hex_value
  low_hex e = let r = digit_range b e in (omega arith, rw e, omega arith)

  pub high_hex : hex_digit? b ≡ true → digit? b ≡ false → (97 ≤ b) × (b - 97 + 10 ≡ hex_value b) × (b - 97 + 10 < 16)
  unfolding hex_digit? hex_value
  high_hex h e =
      let r : (97 ≤ b) × (b ≤ 102) = between 97 102 b (rw e at h) in
      let q : b - 97 + 10 ≡ b - 87 = omega arith in
      (omega arith, rw (e, q), omega arith)

-- bytes of a class stand inside
module _ (t : List ℕ) (i : ℕ) where
  pub name_inside : name_byte? (byte_at t i) ≡ true → i < length t
  unfolding name_byte? letter? digit?
  name_inside = class_inside name_byte? refl t i

  pub letter_inside : letter? (byte_at t i) ≡ true → i < length t
  unfolding letter?
  letter_inside = class_inside letter? refl t i

  pub digit_inside : digit? (byte_at t i) ≡ true → i < length t
  unfolding digit?
  digit_inside = class_inside digit? refl t i

  pub hex_inside : hex_digit? (byte_at t i) ≡ true → i < length t
  unfolding hex_digit? digit?
  hex_inside = class_inside hex_digit? refl t i

-- a hex digit is below 16
pub hex_value_below : (b : ℕ) → hex_digit? b ≡ true → hex_value b < 16
hex_value_below b h = go (digit? b) refl
  where
    go : (r : Bool) → digit? b ≡ r → hex_value b < 16
    go true e = omega (arith, low_hex b e)
    go false e = omega (arith, high_hex b h e)
