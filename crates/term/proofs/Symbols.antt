-- Names at a place: how far they go, and the symbols that they stand for. Assumes nothing.
use mathlib.Core.Path.{◌≡◌, refl, sym, ap, ◌∙◌}
use mathlib.Core.Bool.{Bool, true, false}
use mathlib.Core.List.{List}
use mathlib.Core.Option.{Option, none, some}
use Prim.Native.Nat.{ℕ, suc, ◌+◌, ◌-◌, ◌<◌, ◌≤◌}
use native.Mathlib.Omega.{arith}
use borrow.Author.Tests.{le-leb, lt-leb, leb-true, leb-false}
use lib.Dec.{leb}
use lib.ListN.{length, take, drop}
use Rattle.names.specs.Names.{letter?, name_byte?, max_name}
use Rattle.names.specs.Check.{found_of}
use Rattle.std.specs.Prelude.{Some, None, Option as Maybe}
use Rattle.term.specs.Scan.{byte_at, leading, name_bytes, name_at}
use Rattle.term.specs.Grammar.{named, unnamed, known_as, symbol_of}
use Rattle.term.proofs.Bytes.{name_inside}
use Rattle.base.proofs.Leading.{counted}

letter_in_name : (b : ℕ) → letter? b ≡ true → name_byte? b ≡ true
unfolding name_byte?
letter_in_name b e = rw e

-- the first test passes, so some do
first_counts : (p : ℕ → Bool) (m : ℕ) → p 0 ≡ true → 0 < leading (suc m) p
unfolding leading
first_counts p m e = rw (leading, e) (omega arith)

module _ (t : List ℕ) (at : ℕ) (letter : letter? (byte_at t at) ≡ true) where
  pub name_some : 0 < name_bytes t at
  unfolding name_bytes
  name_some =
      let z : at + 0 ≡ at = omega arith in
      first_counts (λ k. name_byte? (byte_at t (at + k))) max_name (letter_in_name (byte_at t (at + 0)) (rw z letter))

  pub name_fits : at + name_bytes t at ≤ length t
  unfolding name_bytes
  name_fits =
      let n = name_bytes t at in
      let s = name_some in
      let l = name_inside t (at + (n - 1)) ((counted (λ k. name_byte? (byte_at t (at + k))) (suc max_name)).passed (n - 1) (omega arith)) in
      omega (arith, l)

  module _ (symbol : List ℕ → Option ℕ) (n : ℕ) (count : n ≡ name_bytes t at) where
    pub name_long : max_name < n → unnamed 63 (at + max_name) ≡ symbol_of symbol at (name_at t at)
    unfolding name_at
    name_long h = let f : leb (name_bytes t at) max_name ≡ false = lt-leb (name_bytes t at) max_name (omega arith) in rw f

    pub name_whole : n ≤ max_name → known_as at (at + n) (symbol (take n (drop at t))) ≡ symbol_of symbol at (name_at t at)
    unfolding name_at
    name_whole h = let f : leb (name_bytes t at) max_name ≡ true = le-leb (name_bytes t at) max_name (omega arith) in rw (f, ← count)

    -- the bytes up to place at + n were looked up
    module _ (short : n ≤ max_name) (r : Maybe ℕ) (look : found_of r ≡ symbol (take (at + n - at) (drop at t))) where
      looked : found_of r ≡ symbol (take n (drop at t))
      looked = let e : at + n - at ≡ n = omega arith in rw e at look

      pub symbol_found : (s : ℕ) → r ≡ Some s → named s (at + n) ≡ symbol_of symbol at (name_at t at)
      symbol_found s q = ap (known_as at (at + n)) (sym (ap found_of q) ∙ looked) ∙ name_whole short

      pub symbol_unknown : r ≡ None → unnamed 65 at ≡ symbol_of symbol at (name_at t at)
      symbol_unknown q = ap (known_as at (at + n)) (sym (ap found_of q) ∙ looked) ∙ name_whole short

  -- the bytes that stand for a symbol
  pub named_bytes : (symbol : List ℕ → Option ℕ) (s next : ℕ) → symbol_of symbol at (name_at t at) ≡ named s next → (at + name_bytes t at ≡ next) × (symbol (take (name_bytes t at) (drop at t)) ≡ some s)
  named_bytes symbol s next e = go (leb (name_bytes t at) max_name) refl
    where
      name : List ℕ
      name = take (name_bytes t at) (drop at t)

      known : (o : Option ℕ) → symbol name ≡ o → known_as at (at + name_bytes t at) o ≡ named s next → (at + name_bytes t at ≡ next) × (symbol name ≡ some s)
      known (some k) q h = let b : k ≡ s = cc in (cc, q ∙ ap some b)
      known none q h = let z : ◌≡◌ {A = ℕ} 0 1 = cc in absurd (omega arith)

      go : (b : Bool) → leb (name_bytes t at) max_name ≡ b → (at + name_bytes t at ≡ next) × (symbol name ≡ some s)
      go true f = known (symbol name) refl (name_whole symbol (name_bytes t at) refl (leb-true _ _ f) ∙ e)
      go false f = let h : unnamed 63 (at + max_name) ≡ named s next = name_long symbol (name_bytes t at) refl (leb-false _ _ f) ∙ e in let z : ◌≡◌ {A = ℕ} 0 1 = cc in absurd (omega arith)

  -- where a name stands for a symbol
  pub named_after : (symbol : List ℕ → Option ℕ) (s next : ℕ) → symbol_of symbol at (name_at t at) ≡ named s next → (at < next) × (next ≤ length t) × (name : List ℕ) × (symbol name ≡ some s)
  named_after symbol s next e =
      let (a, q) = named_bytes symbol s next e in
      (omega (arith, name_some), omega (arith, name_fits), take (name_bytes t at) (drop at t), q)
