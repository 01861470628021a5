-- The first of some texts that is given bytes, by a test of each. Assumes nothing.
use mathlib.Core.Path.{◌≡◌, refl, sym, ap, subst, ◌∙◌}
use mathlib.Core.Bool.{Bool, true, false, cond}
use mathlib.Core.List.{List, [], ◌∷◌}
use mathlib.Core.Option.{some, map}
use Prim.Native.Nat.{ℕ, zero, suc, ◌<◌}
use native.Mathlib.Omega.{arith}
use lib.Dec.{T}
use lib.ListN.{length, get_or}
use Rattle.model.specs.Lists.{eq_list, tab}
use Rattle.model.proofs.Members.{eq_list→eq, eq_list_refl}
use Rattle.document.proofs.Probing.{scan}
use Rattle.jsonrows.specs.Keys.{find_text}

-- equal lists, as a fact and as a test
pub eq_eq_list : (a b : List ℕ) → a ≡ b → eq_list a b ≡ true
eq_eq_list a b e = go (eq_list a b) refl (subst (λ x. T (eq_list a x)) e (eq_list_refl a))
  where
    go : (r : Bool) → eq_list a b ≡ r → T r → r ≡ true
    go true q h = refl
    go false q h = absurd h

pub eq_list_eq : (a b : List ℕ) → eq_list a b ≡ true → a ≡ b
eq_list_eq a b e = eq_list→eq a b (subst T (sym e) tt)

pub eq_list_swap : (a b : List ℕ) → eq_list a b ≡ eq_list b a
eq_list_swap a b = go (eq_list a b) refl (eq_list b a) refl
  where
    go : (r : Bool) → eq_list a b ≡ r → (s : Bool) → eq_list b a ≡ s → r ≡ s
    go true q true p = refl
    go true q false p = sym (eq_eq_list b a (sym (eq_list_eq a b q))) ∙ p
    go false q true p = sym q ∙ eq_eq_list a b (sym (eq_list_eq b a p))
    go false q false p = refl

pub find_scan : (bs : List ℕ) (n : ℕ) (f : ℕ → List ℕ) (p : ℕ → Bool) → ((k : ℕ) → k < n → p k ≡ eq_list bs (f k)) → find_text bs (tab n f) ≡ scan n p
unfolding find_text
find_scan bs zero f p h = refl
find_scan bs (suc n) f p h =
    let e : p 0 ≡ eq_list bs (f 0) = h 0 (omega arith) in
    (λ i. cond (sym e i) (some 0) (map suc (find_scan bs n (λ k. f (suc k)) (λ k. p (suc k)) (λ k l. h (suc k) (omega arith)) i)))

-- a line is found where it stands, if no two lines are equal
pub find_own : (keys : List (List ℕ)) → ((i j : ℕ) → i < length keys → j < length keys → get_or keys i [] ≡ get_or keys j [] → i ≡ j) → (k : ℕ) → k < length keys → find_text (get_or keys k []) keys ≡ some k
unfolding find_text
find_own [] apart k l = absurd (omega (arith, l))
find_own (x ∷ keys) apart zero l = let e : eq_list x x ≡ true = eq_eq_list x x refl in rw e
find_own (x ∷ keys) apart (suc k) l = step (find_own keys (λ i j m n e. let z = apart (suc i) (suc j) (omega (arith, m)) (omega (arith, n)) e in omega (arith, z)) k (omega (arith, l))) (eq_list (get_or keys k []) x) refl
  where
    step : find_text (get_or keys k []) keys ≡ some k → (r : Bool) → eq_list (get_or keys k []) x ≡ r → cond r (some 0) (map suc (find_text (get_or keys k []) keys)) ≡ some (suc k)
    step h true q = let z = apart (suc k) 0 l (omega arith) (eq_list_eq (get_or keys k []) x q) in absurd (omega (arith, z))
    step h false q = ap (map suc) h
