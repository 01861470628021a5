-- A value that is no object and no array: each way through its definition. Assumes nothing.
use mathlib.Core.Path.{◌≡◌, sym, ap, ◌∙◌}
use mathlib.Core.Bool.{Bool, true, false, ◌||◌}
use mathlib.Core.List.{List, [], ◌∷◌}
use Prim.Native.Nat.{ℕ, ◌≤◌}
use native.Mathlib.Omega.{arith}
use borrow.Author.Tests.{eq-eqb, ne_eqb, eqb-true}
use lib.Dec.{eqb}
use Rattle.base.specs.Text.{byte_at, word_at}
use Rattle.classes.specs.Classes.{digit?}
use Rattle.classes.proofs.Ranges.{either, digit_range}
use Rattle.document.specs.declared.scalar.Scalar.TheVariants.{Bare, Flag}
use Rattle.jsontext.specs.Strings.{string_at}
use Rattle.jsontext.specs.Number.{number_at, as_scalar}
use Rattle.jsonrows.specs.Signature.{null_leaf, flag_leaf}
use Rattle.jsonrows.specs.Grammar.{Built, refused, after_word, after_text, after_number}
use Rattle.jsonrows.specs.Items.{plain_at}

-- the test of a byte and of what a lookup said of it, as a test of the byte
pub number_test : {c x : ℕ} {d r : Bool} → c ≡ x → d ≡ digit? c → (eqb c 45 || d) ≡ r → (eqb x 45 || digit? x) ≡ r
number_test {c} e f g = sym (λ i. eqb (e i) 45 || digit? (e i)) ∙ ap (λ d. eqb c 45 || d) (sym f) ∙ g

module _ (limit : ℕ) (t : List ℕ) (at : ℕ) (b : Built) where
  pub quote_first : byte_at t at ≡ 34 → plain_at limit t at b ≡ after_text limit b (string_at t at)
  unfolding plain_at
  quote_first e = let f : eqb (byte_at t at) 34 ≡ true = eq-eqb (byte_at t at) 34 e in rw (plain_at, f)

  module _ (no_quote : byte_at t at ≡ 34 → ⊥) where
    q : eqb (byte_at t at) 34 ≡ false
    q = ne_eqb (byte_at t at) 34 no_quote

    pub t_first : byte_at t at ≡ 116 → plain_at limit t at b ≡ after_word limit flag_leaf b (word_at (Flag true) (116 ∷ 114 ∷ 117 ∷ 101 ∷ []) t at)
    unfolding plain_at
    t_first e = let f : eqb (byte_at t at) 116 ≡ true = eq-eqb (byte_at t at) 116 e in rw (plain_at, q, f)

    module _ (no-t : byte_at t at ≡ 116 → ⊥) where
      r : eqb (byte_at t at) 116 ≡ false
      r = ne_eqb (byte_at t at) 116 no-t

      pub f_first : byte_at t at ≡ 102 → plain_at limit t at b ≡ after_word limit flag_leaf b (word_at (Flag false) (102 ∷ 97 ∷ 108 ∷ 115 ∷ 101 ∷ []) t at)
      unfolding plain_at
      f_first e = let f : eqb (byte_at t at) 102 ≡ true = eq-eqb (byte_at t at) 102 e in rw (plain_at, q, r, f)

      module _ (no-f : byte_at t at ≡ 102 → ⊥) where
        s : eqb (byte_at t at) 102 ≡ false
        s = ne_eqb (byte_at t at) 102 no-f

        pub n_first : byte_at t at ≡ 110 → plain_at limit t at b ≡ after_word limit null_leaf b (word_at Bare (110 ∷ 117 ∷ 108 ∷ 108 ∷ []) t at)
        unfolding plain_at
        n_first e = let f : eqb (byte_at t at) 110 ≡ true = eq-eqb (byte_at t at) 110 e in rw (plain_at, q, r, s, f)

        module _ (no-n : byte_at t at ≡ 110 → ⊥) where
          u : eqb (byte_at t at) 110 ≡ false
          u = ne_eqb (byte_at t at) 110 no-n

          pub number_first : (eqb (byte_at t at) 45 || digit? (byte_at t at)) ≡ true → plain_at limit t at b ≡ after_number limit at b (as_scalar (number_at t at))
          unfolding plain_at
          number_first e = rw (plain_at, q, r, s, u, e)

          pub none_first : (eqb (byte_at t at) 45 || digit? (byte_at t at)) ≡ false → plain_at limit t at b ≡ refused 71 at
          unfolding plain_at
          none_first e = rw (plain_at, q, r, s, u, e)

  -- a byte that begins a number begins nothing else
  pub number_alone : (eqb (byte_at t at) 45 || digit? (byte_at t at)) ≡ true → plain_at limit t at b ≡ after_number limit at b (as_scalar (number_at t at))
  number_alone e =
      let (l, h) : (45 ≤ byte_at t at) × (byte_at t at ≤ 57) = either (eqb (byte_at t at) 45) (digit? (byte_at t at)) (λ f. let q = eqb-true (byte_at t at) 45 f in (omega (arith, q), omega (arith, q))) (λ f. let (p, q) = digit_range (byte_at t at) f in (omega (arith, p), q)) e in
      number_first (λ q. omega (arith, q, l)) (λ q. omega (arith, q, h)) (λ q. omega (arith, q, h)) (λ q. omega (arith, q, h)) e
