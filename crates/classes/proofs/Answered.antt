-- Each entry of the table says what comparing its byte says: one law over the entry and the class. Assumes nothing.
use mathlib.Core.Path.{◌≡◌, sym, ap, ◌∙◌}
use mathlib.Core.Bool.{Bool, true, false, cond}
use mathlib.Core.List.{List, [], ◌∷◌}
use Prim.Native.Nat.{ℕ, zero, suc, ◌+◌, ◌*◌, ◌/◌, ◌%◌, ◌^◌, ◌<◌}
use native.Mathlib.Nat.{zero-div}
use native.Mathlib.Omega.{arith}
use lib.Arith.{digits_div}
use lib.Dec.{eqb}
use lib.ListN.{get_or}
use lib.Pow.{shr-shr}
use Rattle.model.specs.Automaton.{bit?}
use Rattle.model.proofs.Tab.{tab_at}
use Rattle.classes.specs.Classes.{answers, six_classes, in_class?, class_table}

-- the lowest bit is the first answer, and above it stand the others
lowest : (x : ℕ) (r : Bool) → bit? (x * 2 + cond r 1 0) 0 ≡ r
lowest x true = let e : (x * 2 + 1) / 1 % 2 ≡ 1 = omega arith in rw e
lowest x false = let e : (x * 2 + 0) / 1 % 2 ≡ 0 = omega arith in rw e

small : (r : Bool) → cond r 1 0 < 2
small true = omega arith
small false = omega arith

above : (x k : ℕ) (r : Bool) → bit? (x * 2 + cond r 1 0) (suc k) ≡ bit? x k
above x k r =
    let e : suc k ≡ 1 + k = omega arith in
    ap (bit? (x * 2 + cond r 1 0)) e
    ∙ ap (λ (n : ℕ). eqb (n % 2) 1) (sym (shr-shr (x * 2 + cond r 1 0) 1 k) ∙ ap (λ (n : ℕ). n / 2 ^ k) (digits_div x (small r)))

-- bit k of the answers is the answer of test k
answered : (ps : List (ℕ → Bool)) (b k : ℕ) → bit? (answers ps b) k ≡ get_or ps k (λ _. false) b
answered [] b k = ap (λ (n : ℕ). eqb (n % 2) 1) (zero-div (2 ^ k))
answered (p ∷ ps) b zero = lowest (answers ps b) (p b)
answered (p ∷ ps) b (suc k) = above (answers ps b) k (p b) ∙ answered ps b k

pub compared : (b k : ℕ) → b < 256 → bit? (get_or class_table b 0) k ≡ in_class? k b
unfolding class_table
compared b k h = ap (λ (n : ℕ). bit? n k) (tab_at 0 256 (answers six_classes) b h) ∙ answered six_classes b k

-- the same of a table that was lent
pub compared_in : (t : List ℕ) (b k : ℕ) → b < 256 → t ≡ class_table → bit? (get_or t b 0) k ≡ in_class? k b
compared_in t b k h e = ap (λ (l : List ℕ). bit? (get_or l b 0) k) e ∙ compared b k h
