-- Decimal digits one by one, and how many there are. Assumes nothing.
use mathlib.Core.Path.{◌≡◌, refl, sym, ap, ◌∙◌}
use mathlib.Core.Bool.{Bool, true, false}
use mathlib.Core.List.{[], ◌∷◌, ◌++◌}
use Prim.Native.Nat.{ℕ, zero, suc, ◌+◌, ◌*◌, ◌/◌, ◌%◌, ◌^◌, ◌<◌, ◌≤◌}
use native.Mathlib.Nat.{div-lt_iff_lt-mul, pow-suc}
use native.Mathlib.Omega.{arith}
use borrow.Author.Tests.{lt-ltb, le-ltb, ltb-true, ltb-false}
use lib.Dec.{ltb}
use lib.ListN.{length, length-append}
use Rattle.names.specs.Names.{digits, decimal}

pub last_digit : (f n : ℕ) → n < 10 → digits (suc f) n ≡ (48 + n) ∷ []
unfolding digits
last_digit f n l = rw (digits, lt-ltb _ _ l)

pub next_digit : (f n : ℕ) → 10 ≤ n → digits (suc f) n ≡ digits f (n / 10) ++ (48 + n % 10) ∷ []
unfolding digits
next_digit f n l = rw (digits, le-ltb _ _ l)

-- more digits than there are change nothing
enough : (f g n : ℕ) → n < f → n < g → digits f n ≡ digits g n
enough zero g n l m = absurd (omega arith)
enough (suc f) zero n l m = absurd (omega arith)
enough (suc f) (suc g) n l m = go (enough f g) (ltb n 10) refl
  where
    go : ((n : ℕ) → n < f → n < g → digits f n ≡ digits g n) → (b : Bool) → ltb n 10 ≡ b → digits (suc f) n ≡ digits (suc g) n
    go ih true e = let k = ltb-true n 10 e in last_digit f n k ∙ sym (last_digit g n k)
    go ih false e =
        let k = ltb-false n 10 e in
        let q : n / 10 < n = omega arith in
        next_digit f n k ∙ ap (λ l. l ++ (48 + n % 10) ∷ []) (ih (n / 10) (omega arith) (omega arith)) ∙ sym (next_digit g n k)

pub decimal_last : (n : ℕ) → n < 10 → decimal n ≡ (48 + n) ∷ []
decimal_last n l = last_digit n n l

pub decimal_more : (n : ℕ) → 10 ≤ n → decimal n ≡ decimal (n / 10) ++ (48 + n % 10) ∷ []
decimal_more n l = let q : n / 10 < n = omega arith in next_digit n n l ∙ ap (λ d. d ++ (48 + n % 10) ∷ []) (enough n (suc (n / 10)) (n / 10) q (omega arith))

few : (f n m : ℕ) → n < 10 ^ suc m → length (digits f n) ≤ suc m
unfolding digits
few zero n m l = omega arith
few (suc f) n m l = go (few f) m l (ltb n 10) refl
  where
    go : ((n m : ℕ) → n < 10 ^ suc m → length (digits f n) ≤ suc m) → (m : ℕ) → n < 10 ^ suc m → (b : Bool) → ltb n 10 ≡ b → length (digits (suc f) n) ≤ suc m
    go ih m l true e = rw (last_digit f n (ltb-true n 10 e)) (omega arith)
    go ih zero l false e = let k = ltb-false n 10 e in absurd (omega arith)
    go ih (suc m) l false e =
        let q : n < 10 ^ suc m * 10 = rw (pow-suc 10 (suc m)) at l in
        let h = ih (n / 10) m ((div-lt_iff_lt-mul {k = 10} (omega arith)).1 q) in
        rw (next_digit f n (ltb-false n 10 e), length-append) (omega arith)

pub decimal_few : (n : ℕ) → n < 2 ^ 64 → length (decimal n) ≤ 20
decimal_few n l = few (suc n) n 19 (omega arith)

pub decimal_some : (n : ℕ) → 0 < length (decimal n)
decimal_some n = go (ltb n 10) refl
  where
    go : (b : Bool) → ltb n 10 ≡ b → 0 < length (decimal n)
    go true e = rw (decimal_last n (ltb-true n 10 e)) (omega arith)
    go false e = rw (decimal_more n (ltb-false n 10 e), length-append) (omega arith)
