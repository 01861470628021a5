-- Lists made of a function of the index. Assumes nothing.
use mathlib.Core.Path.{◌≡◌, refl, ap}
use mathlib.Core.Logic.{⊎_elim}
use mathlib.Core.List.Memᴰ.{cases_cons as in_cons}
use mathlib.Core.List.Memᴰ.{head as here}
use mathlib.Core.List.Memᴰ.{not-nil}
use mathlib.Core.List.Memᴰ.{tail as there}
use mathlib.Core.List.{List, [], ◌∷◌, ◌++◌, Memᴰ as In}
use Prim.Native.Nat.{ℕ, zero, suc, ◌<◌, ◌≤◌}
use native.Mathlib.Omega.{arith}
use lib.ListN.{length, get_or}
use Rattle.model.specs.Lists.{tab}

pub tab_at : {A : Type 0} (d : A) (n : ℕ) (f : ℕ → A) (k : ℕ) → k < n → get_or (tab n f) k d ≡ f k
tab_at d zero f k h = let z : ⊥ = omega arith in absurd z
tab_at d (suc n) f zero h = refl
tab_at d (suc n) f (suc k) h = tab_at d n (λ i. f (suc i)) k (omega arith)

pub tab_past : {B : Type 0} (d : B) (n : ℕ) (f : ℕ → B) (k : ℕ) → n ≤ k → get_or (tab n f) k d ≡ d
tab_past d zero f k l = refl
tab_past d (suc n) f zero l = let z : ⊥ = omega arith in absurd z
tab_past d (suc n) f (suc k) l = tab_past d n (λ i. f (suc i)) k (omega arith)

pub length_tab : {B : Type 0} (n : ℕ) (f : ℕ → B) → length (tab n f) ≡ n
length_tab zero f = refl
length_tab (suc n) f = ap suc (length_tab n (λ k. f (suc k)))

pub in_tab : {B : Type 0} (n : ℕ) (f : ℕ → B) {y : B} → In y (tab n f) → (i : ℕ) × (i < n) × (y ≡ f i)
in_tab zero f h = absurd (not-nil h)
in_tab (suc n) f h = ⊎_elim (λ e. (0, omega arith, e)) (λ m. let (i, l, e) = in_tab n (λ k. f (suc k)) m in (suc i, omega arith, e)) (in_cons h)

pub tab_in : {B : Type 0} (n : ℕ) (f : ℕ → B) (i : ℕ) → i < n → In (f i) (tab n f)
tab_in zero f i l = let z : ⊥ = omega arith in absurd z
tab_in (suc n) f zero l = here refl
tab_in (suc n) f (suc i) l = there (tab_in n (λ k. f (suc k)) i (omega arith))

pub tab_from : (n : ℕ) (f : ℕ → ℕ) (k j : ℕ) → get_or (tab n f) k 0 ≡ suc j → (k < n) × (f k ≡ suc j)
tab_from zero f k j h = let z : ⊥ = omega arith in absurd z
tab_from (suc n) f zero j h = (omega arith, h)
tab_from (suc n) f (suc k) j h = let r = tab_from n (λ i. f (suc i)) k j h in (omega arith, r.1)

pub tab_same : {B : Type 0} (n : ℕ) (f g : ℕ → B) → ((k : ℕ) → k < n → f k ≡ g k) → tab n f ≡ tab n g
tab_same zero f g h = refl
tab_same (suc n) f g h = cc (h 0 (omega arith), tab_same n (λ k. f (suc k)) (λ k. g (suc k)) (λ k l. h (suc k) (omega arith)))

pub tab_snoc : {B : Type 0} (n : ℕ) (f : ℕ → B) → tab (suc n) f ≡ tab n f ++ f n ∷ []
tab_snoc zero f = refl
tab_snoc {B} (suc n) f = ap {B = List B} (λ l. f 0 ∷ l) (tab_snoc n (λ k. f (suc k)))
