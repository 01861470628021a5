-- A scalar's text, made from its last byte to its first: what the loops know at their heads, and each kind of scalar. Assumes nothing.
use mathlib.Core.Path.{◌≡◌, refl, sym, ap, subst, ◌∙◌}
use mathlib.Core.Bool.{Bool, true, false}
use mathlib.Core.List.{List, [], ◌∷◌, ◌++◌, append_assoc, append-nil}
use Prim.Native.Nat.{ℕ, zero, suc, ◌+◌, ◌-◌, ◌/◌, ◌%◌, ◌^◌, ◌<◌, ◌≤◌}
use native.Mathlib.Omega.{arith}
use borrow.Author.Rules.{rules}
use lib.Dec.{eqb}
use lib.ListN.{length, take, drop, set, length-append, length-drop, length-set}
use lib.Seq.{set_split, drop_at, length-take-le, take_all}
use Rattle.model.specs.Space.{put_at}
use Rattle.names.specs.Names.{decimal}
use Rattle.document.specs.declared.scalar.Scalar.TheVariants.{Flag}
use Rattle.document.specs.Scalars.{payload_of}
use Rattle.spelling.specs.declared.piece.Piece.{Piece}
use Rattle.spelling.specs.Text.{hex_digit, hex_digits, scalar_text}
use Rattle.spelling.specs.Parts.{piece_bytes, text_of, Holds}
use Rattle.spelling.proofs.Decimal.{decimal_last, decimal_more, decimal_few, decimal_some}

-- a byte more in front
pub byte_before : (p : Piece) (b s : ℕ) → 0 < p.start → s ≡ p.start - 1 → (text : List ℕ) → Holds p text → Holds (record { bytes = set p.bytes s b; start = s }) (b ∷ text)
byte_before p b s some e text h =
    let inside : s < length p.bytes = omega (arith, h.size, h.long) in
    let n : suc s ≡ p.start = omega arith in
    record {
      is =
          ap (drop s) (set_split p.bytes s b inside)
          ∙ drop_at (take s p.bytes) (b ∷ drop (suc s) p.bytes) s (length-take-le s p.bytes (omega arith))
          ∙ ap (λ l. b ∷ l) (ap (λ k. drop k p.bytes) n ∙ h.is);
      size = omega (arith, h.size);
      long = length-set p.bytes s b ∙ h.long;
    }

-- what is still to come, and what the piece holds, make the whole
pub record Joined (front whole : List ℕ) (p : Piece) : Type 0 where
  pub text : List ℕ
  pub holds : Holds p text
  pub is : front ++ text ≡ whole

-- p with the byte b in front
abbrev pub Before : ℕ → Piece → Piece → Type 0
Before b p q = (text : List ℕ) → Holds p text → Holds q (b ∷ text)

joined_none : (whole : List ℕ) (p : Piece) → Holds p [] → Joined whole whole p
joined_none whole p h = record { text = []; holds = h; is = append-nil whole }

joined_size : (front whole : List ℕ) (p : Piece) → Joined front whole p → p.start + length whole ≡ piece_bytes + length front
joined_size front whole p j = let e = ap length j.is in let f = length-append front j.text in omega (arith, j.holds.size)

joined_more : (front whole : List ℕ) (p q : Piece) (b : ℕ) → Joined (front ++ b ∷ []) whole p → Before b p q → Joined front whole q
joined_more front whole p q b j f = record { text = b ∷ j.text; holds = f j.text j.holds; is = sym (append_assoc front (b ∷ []) j.text) ∙ j.is }

joined_all_lem : (whole : List ℕ) (p : Piece) → Joined [] whole p → Holds p whole
joined_all_lem whole p j = subst (Holds p) j.is j.holds

-- decimal digits
abbrev pub Digits : ℕ → ℕ → Piece → Type 0
Digits n rest p = Joined (decimal rest) (decimal n) p

pub digits_none : (n : ℕ) (p : Piece) → Holds p [] → Digits n n p
digits_none n = joined_none (decimal n)

module _ (n rest : ℕ) (p : Piece) (j : Digits n rest p) where
  pub digits_room : n < 2 ^ 64 → (0 < p.start) × (p.start ≤ piece_bytes)
  digits_room l =
      let s = joined_size (decimal rest) (decimal n) p j in
      let a = decimal_few n l in
      let b = decimal_some rest in
      (omega arith, omega (arith, j.holds.size))

  module _ (q : Piece) (b : ℕ) (f : Before b p q) where
    pub digits_more : 10 ≤ rest → b ≡ 48 + rest % 10 → Digits n (rest / 10) q
    digits_more l e =
        joined_more (decimal (rest / 10)) (decimal n) p q b
        (subst (λ l. Joined l (decimal n) p) (decimal_more rest l ∙ ap (λ d. decimal (rest / 10) ++ d ∷ []) (sym e)) j) f

    pub digits_all : n < 2 ^ 64 → rest < 10 → b ≡ 48 + rest % 10 → Holds q (decimal n) × (0 < q.start)
    digits_all m l e =
        let last : 48 + rest ≡ b = omega arith in
        let h = joined_all_lem (decimal n) q (joined_more [] (decimal n) p q b (subst (λ l. Joined l (decimal n) p) (decimal_last rest l ∙ ap (λ d. d ∷ []) last) j) f) in
        (h, omega (arith, h.size, decimal_few n m))

-- hex digits
pub record Hex (n left rest : ℕ) (p : Piece) : Type 0 where
  pub joined : Joined (hex_digits left rest) (hex_digits 16 n) p
  pub place : p.start ≡ 5 + left

pub hex_length : (k n : ℕ) → length (hex_digits k n) ≡ k
unfolding hex_digits
hex_length zero n = refl
hex_length (suc k) n = let h = hex_length k (n / 16) in rw length-append (omega arith)

module _ (n : ℕ) where
  pub hex_none : (p : Piece) → Holds p [] → Hex n 16 n p
  hex_none p h = record { joined = joined_none (hex_digits 16 n) p h; place = let s = h.size in omega arith }

  module _ (left rest : ℕ) (p : Piece) (j : Hex n left rest p) where
    pub hex_room : left ≤ 16 → (0 < p.start) × (p.start ≤ piece_bytes)
    hex_room l = (omega (arith, j.place), omega (arith, j.place))

    pub hex_more : (q : Piece) (b k : ℕ) → 0 < left → k ≡ left - 1 → b ≡ hex_digit (rest % 16) → Before b p q → Hex n k (rest / 16) q
    unfolding hex_digits
    hex_more q b k l e d f =
        let m : left ≡ suc k = omega arith in
        let i : Joined (hex_digits k (rest / 16) ++ b ∷ []) (hex_digits 16 n) p = subst (λ x. Joined (hex_digits k (rest / 16) ++ x ∷ []) (hex_digits 16 n) p) (sym d) (subst (λ x. Joined (hex_digits x rest) (hex_digits 16 n) p) m j.joined) in
        let next = joined_more (hex_digits k (rest / 16)) (hex_digits 16 n) p q b i f in
        let s = joined_size (hex_digits k (rest / 16)) (hex_digits 16 n) q next in
        let a = hex_length k (rest / 16) in
        let z = hex_length 16 n in
        record { joined = next; place = omega arith }

    pub hex_all : left ≤ 0 → Holds p (hex_digits 16 n)
    unfolding hex_digits
    hex_all l = let z : left ≡ 0 = omega arith in joined_all_lem (hex_digits 16 n) p (subst (λ x. Joined (hex_digits x rest) (hex_digits 16 n) p) z j.joined)

-- a flag's payload is 1 exactly where the flag is true
is_one : (b : Bool) → eqb (payload_of (Flag b)) 1 ≡ b
is_one true = refl
is_one false = refl

-- one kind of scalar each
module _ (p : Piece) (n : ℕ) where
  pub bare_holds : Holds p [] → Holds p (scalar_text 0 n)
  unfolding scalar_text
  bare_holds h = h

  -- of a flag's payload only whether it is 1 counts
  pub flag_holds : Holds p (scalar_text 1 (payload_of (Flag (eqb n 1)))) → Holds p (scalar_text 1 n)
  unfolding scalar_text
  flag_holds h = rw (is_one (eqb n 1)) at h

  module _ (q : Piece) where
    pub count_holds : Before 61 q p → Holds q (decimal n) → Holds p (scalar_text 2 n)
    unfolding scalar_text
    count_holds f h = f (decimal n) h

    pub rate_holds : Before 126 q p → Holds q (hex_digits 16 n) → Holds p (scalar_text 3 n)
    unfolding scalar_text
    rate_holds f h = f (hex_digits 16 n) h

    pub name_holds : (k : ℕ) → (k ≡ 0 → ⊥) → (k ≡ 1 → ⊥) → (k ≡ 2 → ⊥) → (k ≡ 3 → ⊥) → Before 35 q p → Holds q (decimal n) → Holds p (scalar_text k n)
    unfolding scalar_text
    name_holds zero a b c d f h = absurd (a refl)
    name_holds (suc zero) a b c d f h = absurd (b refl)
    name_holds (suc (suc zero)) a b c d f h = absurd (c refl)
    name_holds (suc (suc (suc zero))) a b c d f h = absurd (d refl)
    name_holds (suc (suc (suc (suc k)))) a b c d f h = f (decimal n) h

-- a piece put at a place of a space: all of its bytes from its start on, which are the text that it holds
module _ (d : List ℕ) (at : ℕ) (p : Piece) (after : List ℕ) where
  pub piece_put : length p.bytes ≡ piece_bytes → p.start ≤ piece_bytes → after ≡ put_at d at (take (piece_bytes - p.start) (text_of p)) → (piece_bytes - p.start ≡ length (text_of p)) × (after ≡ put_at d at (text_of p))
  piece_put long inside f =
      let n = length-drop p.start p.bytes in
      (omega arith, f ∙ ap (put_at d at) (take_all (piece_bytes - p.start) (text_of p) (omega arith)))

  pub text_put : (text : List ℕ) (r : ℕ) → Holds p text → (r ≡ length (text_of p)) × (after ≡ put_at d at (text_of p)) → (r ≡ length text) × (after ≡ put_at d at text)
  text_put text r h f = (f.0 ∙ ap length h.is, f.1 ∙ ap (put_at d at) h.is)

-- room for a byte before the digits
pub hex_start : (n : ℕ) (p : Piece) → Holds p (hex_digits 16 n) → (0 < p.start) × (p.start ≤ piece_bytes)
hex_start n p h = let a = hex_length 16 n in let s = h.size in (omega arith, omega arith)

pub ruleset digits = (digits_none, digits_room, digits_more, digits_all, rules)
