-- What stands at a place of a text, and names and words that stand there. Assumes nothing.
use mathlib.Core.Path.{◌≡◌, refl, sym, ap, subst, ◌∙◌}
use mathlib.Core.Bool.{Bool, true, false, ◌&&◌, cond}
use mathlib.Core.List.{List, [], ◌∷◌, ◌++◌}
use mathlib.Core.Option.{Option, some}
use Prim.Native.Nat.{ℕ, suc, ◌+◌, ◌<◌}
use native.Mathlib.Omega.{arith}
use borrow.Author.Tests.{eq-eqb}
use lib.Dec.{T, eqb, leb, ltb, leb→le, ltb→lt}
use lib.ListN.{length, get_or, take, drop, length-append, get_or-append}
use lib.Seq.{get_or-append-add, get_or-drop, drop-drop, take-append_seam, drop-append_seam}
use Rattle.model.specs.Lists.{all_below}
use Rattle.model.proofs.Below.{at}
use Rattle.model.proofs.Members.{T_and, T_true}
use Rattle.names.specs.Names.{letter?, name_byte?, max_name, name?}
use Rattle.term.specs.Scan.{byte_at, got, fault, name_bytes, name_at, word_bytes, word_at}
use Rattle.term.specs.Grammar.{named, known_as, symbol_of}
use Rattle.base.proofs.Leading.{Led, led_stop, led_all}
use Rattle.term.proofs.Symbols.{name_whole}

-- from place i on the text is l
pub record Stands (t : List ℕ) (i : ℕ) (l : List ℕ) : Type 0 where
  pub is : drop i t ≡ l
  pub end : i + length l ≡ length t

module _ (t : List ℕ) (i : ℕ) where
  pub byte_of : (l : List ℕ) → Stands t i l → (k : ℕ) → byte_at t (i + k) ≡ get_or l k 0
  byte_of l h k = sym (get_or-drop i t k 0) ∙ ap (λ x. get_or x k 0) h.is

  pub head_of : (l : List ℕ) → Stands t i l → byte_at t i ≡ get_or l 0 0
  head_of l h = let z : i + 0 ≡ i = omega arith in ap (byte_at t) (sym z) ∙ byte_of l h 0

  pub behind : (a l : List ℕ) → Stands t i (a ++ l) → Stands t (i + length a) l
  behind a l h =
      let n = length-append a l in
      record {
        is = sym (drop-drop (length a) i t) ∙ ap (drop (length a)) h.is ∙ drop-append_seam a l;
        end = omega (arith, h.end);
      }

  pub next : (b : ℕ) (l : List ℕ) → Stands t i (b ∷ l) → Stands t (i + 1) l
  next b l h = behind (b ∷ []) l h

  pub stands_as : (l m : List ℕ) → l ≡ m → Stands t i l → Stands t i m
  stands_as l m e h = subst (Stands t i) e h

  -- of a part in front, each byte
  pub front_byte : (a l : List ℕ) → Stands t i (a ++ l) → (k : ℕ) → k < length a → byte_at t (i + k) ≡ get_or a k 0
  front_byte a l h k m = byte_of (a ++ l) h k ∙ get_or-append a l 0 k m

  behind_byte : (a l : List ℕ) → Stands t i (a ++ l) → byte_at t (i + length a) ≡ get_or l 0 0
  behind_byte a l h = let z : length a + 0 ≡ length a = omega arith in byte_of (a ++ l) h (length a) ∙ ap (λ k. get_or (a ++ l) k 0) (sym z) ∙ get_or-append-add a l 0 0

  -- a word
  pub word_read : {A : Type 0} (v : A) (w l : List ℕ) → Stands t i (w ++ l) → word_at v w t i ≡ got v (i + length w)
  unfolding word_at word_bytes
  word_read v w l h =
      let p : ℕ → Bool = λ k. eqb (byte_at t (i + k)) (get_or w k 0) in
      let led : Led p (length w) (length w) = record { inside = omega arith; passed = λ k m. eq-eqb _ _ (front_byte w l h k m) } in
      let n : length w ≡ word_bytes w t i = led_all p (length w) (length w) led (omega arith) in
      ap (λ m. cond (eqb m (length w)) (got v (i + m)) (fault (i + m))) (sym n)
      ∙ ap (λ b. cond b (got v (i + length w)) (fault (i + length w))) (eq-eqb (length w) (length w) refl)

  -- a name, which ends where no name byte follows
  module _ (w l : List ℕ) (is_name : T (name? w)) (h : Stands t i (w ++ l)) (ends : name_byte? (get_or l 0 0) ≡ false) where
    parts : T (ltb 0 (length w)) × T (leb (length w) max_name) × T (letter? (get_or w 0 0)) × T (all_below (length w) (λ k. name_byte? (get_or w k 0)))
    unfolding name?
    parts =
        let (a, r) = T_and (ltb 0 (length w)) (leb (length w) max_name && (letter? (get_or w 0 0) && all_below (length w) (λ k. name_byte? (get_or w k 0)))) is_name in
        let (b, q) = T_and (leb (length w) max_name) (letter? (get_or w 0 0) && all_below (length w) (λ k. name_byte? (get_or w k 0))) r in
        let (c, d) = T_and (letter? (get_or w 0 0)) (all_below (length w) (λ k. name_byte? (get_or w k 0))) q in
        (a, b, c, d)

    pub name_letter : letter? (byte_at t i) ≡ true
    name_letter =
        let z : i + 0 ≡ i = omega arith in
        ap letter? (ap (byte_at t) (sym z) ∙ front_byte w l h 0 (ltb→lt 0 (length w) parts.0)) ∙ (T_true (letter? (get_or w 0 0))).0 parts.2

    name_count : length w ≡ name_bytes t i
    unfolding name_bytes
    name_count =
        let p : ℕ → Bool = λ k. name_byte? (byte_at t (i + k)) in
        let few = leb→le (length w) max_name parts.1 in
        let led : Led p (suc max_name) (length w) =
        record {
          inside = omega arith;
          passed = λ k m. ap name_byte? (front_byte w l h k m) ∙ at (λ j. name_byte? (get_or w j 0)) (length w) k ((T_true (all_below (length w) (λ j. name_byte? (get_or w j 0)))).0 parts.3) m;
        } in
        led_stop p (suc max_name) (length w) led (omega arith) (ap name_byte? (behind_byte w l h) ∙ ends)

    pub name_known : (symbol : List ℕ → Option ℕ) (s : ℕ) → symbol w ≡ some s → symbol_of symbol i (name_at t i) ≡ named s (i + length w)
    name_known symbol s found =
        sym (name_whole t i name_letter symbol (length w) name_count (leb→le (length w) max_name parts.1))
        ∙ ap (λ bytes. known_as i (i + length w) (symbol bytes)) (ap (take (length w)) h.is ∙ take-append_seam w l)
        ∙ ap (known_as i (i + length w)) found

pub from_start : (t : List ℕ) → Stands t 0 t
from_start t = record { is = refl; end = omega arith }
