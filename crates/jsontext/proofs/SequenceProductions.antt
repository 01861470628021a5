-- UTF-8 sequences of two bytes or more: what is read is a row of the table, and a row of the table is read, since the rows begin with different bytes. Assumes nothing.
use mathlib.Core.Path.{◌≡◌, refl, sym, ap, subst, ◌∙◌}
use mathlib.Core.Bool.{Bool, true, false}
use mathlib.Core.List.Memᴰ.{head as here}
use mathlib.Core.List.Memᴰ.{tail as there}
use mathlib.Core.List.{List, [], ◌∷◌, Memᴰ as In}
use Prim.Native.Nat.{ℕ, suc, ◌+◌, ◌<◌, ◌≤◌}
use native.Mathlib.Omega.{arith}
use lib.ListN.{length}
use Rattle.model.specs.Lists.{any}
use Rattle.base.specs.Text.{byte_at}
use Rattle.jsontext.specs.Utf8.{between, up_to, broken_at, Sequence, sequences, pass_at, sequence_in, sequence_at}
use Rattle.jsontext.specs.Productions.{PassAt, no_more, pass, SequenceAt}
use Rattle.jsontext.proofs.Places.{stands, stands_above, neither, none_of, in_range}

-- each row's first bytes are below those of the rows after it, and none is below m
data Rising : ℕ → List Sequence → Type 0 where
  no_row : {m : ℕ} → Rising m []
  row : {m next : ℕ} {s : Sequence} {ss : List Sequence} → ((b : ℕ) → s.lead b ≡ true → (m ≤ b) × (b < next)) → m ≤ next → Rising next ss → Rising m (s ∷ ss)

-- a row by its first bytes, from m on
from : (m hi b : ℕ) → between m hi b ≡ true → (m ≤ b) × (b < suc hi)
from m hi b e = let k = in_range m hi b e in (omega arith, omega arith)

rising : Rising 194 sequences
rising =
    row (from 194 223) (omega arith)
    (row (from 224 224) (omega arith)
    (row (from 225 236) (omega arith)
    (row (from 237 237) (omega arith) (row (from 238 239) (omega arith) (row (from 240 240) (omega arith) (row (from 241 243) (omega arith) (row (from 244 244) (omega arith) no_row)))))))

-- so a row's first byte is m or more
row_above : {s : Sequence} {ss : List Sequence} {m : ℕ} → In s ss → Rising m ss → (b : ℕ) → s.lead b ≡ true → m ≤ b
row_above (here q) (row f a r) b e = (f b (subst (λ (x : Sequence). x.lead b ≡ true) q e)).0
row_above (there h) (row f a r) b e = let k = row_above h r b e in omega arith

module _ (t : List ℕ) where
  -- WHAT IS READ

  passed : (ps : List (ℕ → Bool)) (i n : ℕ) → pass_at ps t i ≡ up_to n → PassAt t ps i n
  unfolding pass_at
  passed [] i n e = let q : i ≡ n = cc in subst (PassAt t [] i) q no_more
  passed (p ∷ ps) i n e = go (p (byte_at t i)) refl (passed ps (i + 1) n) e
    where
      go : (b : Bool) → p (byte_at t i) ≡ b → (pass_at ps t (i + 1) ≡ up_to n → PassAt t ps (i + 1) n) → elim b [ true ↦ pass_at ps t (i + 1) | false ↦ broken_at i ] ≡ up_to n → PassAt t (p ∷ ps) i n
      go true q r e = pass q (r e)
      go false q r e = let z : ◌≡◌ {A = ℕ} 0 1 = cc in absurd (omega arith)

  row_read : (ss : List Sequence) → ((s : Sequence) → In s ss → In s sequences) → (i n : ℕ) → sequence_in ss t i ≡ up_to n → SequenceAt t i n
  unfolding sequence_in
  row_read [] h i n e = let z : ◌≡◌ {A = ℕ} 0 1 = cc in absurd (omega arith)
  row_read (s ∷ ss) h i n e = go (s.lead (byte_at t i)) refl (row_read ss (λ x k. h x (there k)) i n) e
    where
      go : (b : Bool) → s.lead (byte_at t i) ≡ b → (sequence_in ss t i ≡ up_to n → SequenceAt t i n) → elim b [ true ↦ pass_at s.more t (i + 1) | false ↦ sequence_in ss t i ] ≡ up_to n → SequenceAt t i n
      go true q r e = record { row = s; listed = h s (here refl); leads = q; follow = passed s.more (i + 1) n e }
      go false q r e = r e

  pub sequence_read : {i n : ℕ} → sequence_at t i ≡ up_to n → SequenceAt t i n
  unfolding sequence_at
  sequence_read {i} {n} e = row_read sequences (λ s h. h) i n e

  -- WHAT IS A SEQUENCE IS READ

  pass_read : {ps : List (ℕ → Bool)} {i n : ℕ} → PassAt t ps i n → pass_at ps t i ≡ up_to n
  unfolding pass_at
  pass_read no_more = refl
  pass_read (pass b h) = rw (pass_at, b) (pass_read h)

  read_row : {s : Sequence} {ss : List Sequence} {m : ℕ} → In s ss → Rising m ss → (i : ℕ) → s.lead (byte_at t i) ≡ true → sequence_in ss t i ≡ pass_at s.more t (i + 1)
  unfolding sequence_in
  read_row (here {x = x} q) (row f a r) i e =
      let g : x.lead (byte_at t i) ≡ true = subst (λ (y : Sequence). y.lead (byte_at t i) ≡ true) q e in
      rw (sequence_in, g) (ap (λ (y : Sequence). pass_at y.more t (i + 1)) (sym q))
  read_row {s = s} (there {x = x} {xs = xs} h) (row f a r) i e = go (x.lead (byte_at t i)) refl (read_row h r i e)
    where
      go : (b : Bool) → x.lead (byte_at t i) ≡ b → sequence_in xs t i ≡ pass_at s.more t (i + 1) → sequence_in (x ∷ xs) t i ≡ pass_at s.more t (i + 1)
      go true g k = let l = row_above h r (byte_at t i) e in let u = f (byte_at t i) g in absurd (omega arith)
      go false g k = rw (sequence_in, g) k

  pub read_sequence : {i n : ℕ} → SequenceAt t i n → sequence_at t i ≡ up_to n
  unfolding sequence_at
  read_sequence {i} h = read_row h.listed rising i h.leads ∙ pass_read h.follow

  -- it begins far above 127
  pub sequence_above : {i n : ℕ} → SequenceAt t i n → 194 ≤ byte_at t i
  sequence_above {i} h = row_above h.listed rising (byte_at t i) h.leads

  -- HOW FAR

  -- no test passes 0
  all_above_zero : any (λ (s : Sequence). any (λ (p : ℕ → Bool). p 0) s.more) sequences ≡ false
  all_above_zero = refl

  pass_ahead : {ps : List (ℕ → Bool)} {i n : ℕ} → PassAt t ps i n → any (λ (p : ℕ → Bool). p 0) ps ≡ false → i ≤ length t → (i ≤ n) × (n ≤ length t)
  pass_ahead no_more z inside = (omega arith, inside)
  pass_ahead {i = i} (pass {p = p} {ps = ps} b h) z inside =
      let (first, others) = neither (p 0) (any (λ (p : ℕ → Bool). p 0) ps) z in
      let k = stands t i p first b in
      let r = pass_ahead h others (omega arith) in
      (omega arith, r.1)

  pub sequence_ahead : {i n : ℕ} → SequenceAt t i n → (i < n) × (n ≤ length t)
  sequence_ahead {i} h =
      let k = stands_above t i (omega (arith, sequence_above h)) in
      let r = pass_ahead h.follow (none_of (λ (s : Sequence). any (λ (p : ℕ → Bool). p 0) s.more) all_above_zero h.listed) (omega arith) in
      (omega arith, r.1)
