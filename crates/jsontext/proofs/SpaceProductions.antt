-- White space ends where its production lets it end last. Assumes nothing.
use mathlib.Core.Path.{◌≡◌, refl, sym, ap, subst, ◌∙◌}
use mathlib.Core.Bool.{Bool, true, false}
use mathlib.Core.List.{List}
use Prim.Native.Nat.{ℕ, zero, suc, ◌+◌, ◌-◌, ◌≤◌}
use native.Mathlib.Omega.{arith}
use lib.ListN.{length}
use Rattle.classes.specs.Classes.{space?}
use Rattle.base.specs.Text.{byte_at, leading}
use Rattle.jsontext.specs.Spaces.{space_end}
use Rattle.jsontext.specs.Productions.{Spaces, no_space, space}
use Rattle.jsontext.proofs.Places.{stands}

module _ (t : List ℕ) where
  -- the tests from place i on
  abbrev From : ℕ → (ℕ → Bool) → Type 0
  From i p = (k : ℕ) → p k ≡ space? (byte_at t (i + k))

  first : (i : ℕ) (p : ℕ → Bool) → From i p → p 0 ≡ space? (byte_at t i)
  first i p h = let e : i + 0 ≡ i = omega arith in h 0 ∙ ap (λ (n : ℕ). space? (byte_at t n)) e

  next : (i : ℕ) (p : ℕ → Bool) → From i p → From (i + 1) (λ k. p (suc k))
  next i p h k = let e : i + suc k ≡ i + 1 + k = omega arith in h (suc k) ∙ ap (λ (n : ℕ). space? (byte_at t n)) e

  stay : (i n : ℕ) → i ≡ n → Spaces t i n
  stay i n e = subst (Spaces t i) e no_space

  spaces_led : (f i : ℕ) (p : ℕ → Bool) → From i p → Spaces t i (i + leading f p)
  unfolding leading
  spaces_led zero i p h = stay i (i + 0) (omega arith)
  spaces_led (suc f) i p h = go (p 0) refl (spaces_led f (i + 1) (λ k. p (suc k)) (next i p h))
    where
      go : (b : Bool) → p 0 ≡ b → Spaces t (i + 1) (i + 1 + leading f (λ k. p (suc k))) → Spaces t i (i + (elim b [ true ↦ suc (leading f (λ k. p (suc k))) | false ↦ 0 ]))
      go true e s =
          let q : i + 1 + leading f (λ k. p (suc k)) ≡ i + suc (leading f (λ k. p (suc k))) = omega arith in
          space (sym (first i p h) ∙ e) (subst (Spaces t (i + 1)) q s)
      go false e s = stay i (i + 0) (omega arith)

  led_spaces : {i n : ℕ} → Spaces t i n → space? (byte_at t n) ≡ false → (f : ℕ) → length t ≤ i + f → (p : ℕ → Bool) → From i p → n ≡ i + leading f p
  unfolding leading space?
  led_spaces no_space stop zero enough p h = omega arith
  led_spaces no_space stop (suc f) enough p h = let e : p 0 ≡ false = first _ p h ∙ stop in rw (leading, e) (omega arith)
  led_spaces {i = i} (space b s) stop zero enough p h = let k = stands t i space? refl b in absurd (omega arith)
  led_spaces {i = i} (space b s) stop (suc f) enough p h =
      let e : p 0 ≡ true = first i p h ∙ b in
      let k = led_spaces s stop f (omega arith) (λ k. p (suc k)) (next i p h) in
      rw (leading, e) (omega arith)

  -- WHAT IS PASSED IS WHITE SPACE,
  pub spaces_read : (i : ℕ) → Spaces t i (space_end t i)
  unfolding space_end
  spaces_read i = spaces_led (length t - i) i (λ k. space? (byte_at t (i + k))) (λ k. refl)

  -- AND ALL WHITE SPACE IS PASSED.
  pub read_spaces : {i n : ℕ} → Spaces t i n → space? (byte_at t n) ≡ false → n ≡ space_end t i
  unfolding space_end
  read_spaces {i} s stop = led_spaces s stop (length t - i) (omega arith) (λ k. space? (byte_at t (i + k))) (λ k. refl)

  -- so it has one end
  pub spaces_once : {i m n : ℕ} → Spaces t i m → space? (byte_at t m) ≡ false → Spaces t i n → space? (byte_at t n) ≡ false → m ≡ n
  spaces_once a stop b stop' = read_spaces a stop ∙ sym (read_spaces b stop')

  -- it is not before its place, and inside
  pub spaces_ahead : {i n : ℕ} → Spaces t i n → i ≤ length t → (i ≤ n) × (n ≤ length t)
  unfolding space?
  spaces_ahead no_space inside = (omega arith, inside)
  spaces_ahead {i = i} (space b s) inside = let k = stands t i space? refl b in let r = spaces_ahead s (omega arith) in (omega arith, r.1)
