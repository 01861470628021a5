-- The slot of a string's decoded bytes: what the loop knows at its head. Assumes nothing.
use mathlib.Core.Path.{◌≡◌, sym, ap, ◌∙◌}
use mathlib.Core.List.{List, [], ◌++◌}
use Prim.Native.Nat.{ℕ, ◌+◌}
use Rattle.base.specs.Text.{byte_at, got, fault}
use Rattle.jsontext.specs.Strings.{bad, piece_at, string_at}
use Rattle.jsontext.specs.Decoded.{text_slot, as_slot}
use Rattle.jsontext.specs.declared.kept.Kept.{Kept}
use Rattle.jsontext.specs.Kept.{Keeps}
use Rattle.jsontext.specs.Scanned.{part, Scanned}
use Rattle.jsontext.specs.StringAnswers.{Plains}
use Rattle.jsontext.specs.Chars.{Character}
use Rattle.jsontext.proofs.Ways.{piece_closed}
use Rattle.jsontext.proofs.Scanning.{scan_plains, scan_closed, scan_bad, no_quote}
use Rattle.jsontext.proofs.CharReads.{char_scan}

-- what was read is kept
pub record Keeping (t : List ℕ) (at i : ℕ) (k : Kept) : Type 0 where
  pub out : List ℕ
  pub scanned : Scanned t at i out
  pub keeps : Keeps out k

-- the bytes up to n more, which stand for themselves
module _ (t : List ℕ) (at i : ℕ) (n : ℕ) (p : Plains t i n) where
  pub keeping_begin : (k k' : Kept) → Scanned t at i [] → Keeps [] k → ((bs : List ℕ) → Keeps bs k → Keeps (bs ++ part t i n) k') → Keeping t at n k'
  keeping_begin k k' s e f = record { out = part t i n; scanned = scan_plains t at i n [] s p; keeps = f [] e }

-- a char more, and the bytes up to e behind it
pub keeping_more : (t : List ℕ) (at i : ℕ) (k : Kept) → Keeping t at i k → (w m n : ℕ) (c : Character t i w m n) (e : ℕ) → Plains t n e → (k' k'' : Kept)
    → ((bs : List ℕ) → Keeps bs k → Keeps (bs ++ c.bs) k') → ((bs : List ℕ) → Keeps bs k' → Keeps (bs ++ part t n e) k'') → Keeping t at e k''
keeping_more t at i k v w m n c e p k' k'' f g =
    record {
      out = (v.out ++ c.bs) ++ part t n e;
      scanned = scan_plains t at n e (v.out ++ c.bs) (char_scan t at i n v.out c.bs v.scanned c.char) p;
      keeps = g (v.out ++ c.bs) (f v.out v.keeps);
    }

module _ (t : List ℕ) (at i : ℕ) (k : Kept) (v : Keeping t at i k) where
  pub keeping_end : (b : ℕ) → b ≡ byte_at t i → b ≡ 34 → (s : ℕ) → ((bs : List ℕ) → Keeps bs k → s ≡ text_slot bs) → got s (i + 1) ≡ as_slot (string_at t at)
  keeping_end b e q s f =
      ap (λ (x : ℕ). got x (i + 1)) (f v.out v.keeps) ∙ sym (ap as_slot (scan_closed t at i v.out v.scanned (sym (piece_closed t i b e q))))

  pub keeping_broken : (p : ℕ) → piece_at t i ≡ bad p → fault p ≡ as_slot (string_at t at)
  keeping_broken p e = sym (ap as_slot (scan_bad t at i v.out v.scanned p e))

-- no quote at all
pub slot_none : (t : List ℕ) (at b : ℕ) → b ≡ byte_at t at → (b ≡ 34 → ⊥) → fault at ≡ as_slot (string_at t at)
slot_none t at b e q = sym (ap as_slot (no_quote t at b e q))
