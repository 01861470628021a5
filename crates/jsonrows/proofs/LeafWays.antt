-- Values without parts: each way through their definitions, by what was read. Assumes nothing.
use mathlib.Core.Path.{◌≡◌, refl, sym, ap, ◌∙◌}
use mathlib.Core.List.{List}
use mathlib.Core.Option.{Option, none, some}
use Rattle.std.specs.Prelude.{Result, Err}
use Prim.Native.Nat.{ℕ, ◌<◌}
use native.Mathlib.Omega.{arith}
use Rattle.base.specs.Text.{Got, got, fault}
use Rattle.model.specs.Table.{Row}
use Rattle.document.specs.declared.scalar.Scalar.{Scalar}
use Rattle.jsontext.specs.Strings.{string_at}
use Rattle.jsontext.specs.Number.{Number, number_at, as_scalar}
use Rattle.jsontext.specs.Decoded.{text_slot, as_slot, same_text}
use Rattle.document.specs.Index.{probe}
use lib.ListN.{get_or}
use Rattle.document.specs.declared.index.Probed.{Probed}
use Rattle.jsonrows.specs.Texts.{ProbedAt, WholeString}
use Rattle.jsontext.proofs.StringProductions.{string_read, string_ahead}
use Rattle.jsontext.proofs.NumberProductions.{number_read, number_ahead}
use Rattle.jsonrows.specs.Signature.{number_leaf}
use Rattle.jsonrows.specs.Grammar.{Built, leaf_row, finish, after_word, after_text, after_number}
use Rattle.jsonrows.specs.State.{Old, Says, says_refused}
use Rattle.base.specs.declared.refusal.Refusal.TheVariants.{JsonFault, NumberForm}
use Rattle.base.specs.declared.refusal.TextRefusal.{TextRefusal}
use Rattle.jsonrows.specs.declared.rows.Part.{Part}
use Rattle.jsonrows.proofs.Holding.{says_by, says_row, no_text, no_child}

module _ {t cells slots starts found old : List ℕ} {before limit : ℕ} (b : Built) where
  pub word_fault : (symbol : ℕ) {g : Got Scalar} {p : ℕ} → fault p ≡ g → Says t cells slots starts found old before limit (Err (record { refusal = JsonFault; place = p })) (after_word limit symbol b g)
  word_fault symbol e = says_by (ap (after_word limit symbol b) (sym e)) (says_refused refl)

  pub word_is : (symbol : ℕ) {g : Got Scalar} {k : Scalar} {n : ℕ} {row : Row} {r : Result Part TextRefusal} → got k n ≡ g → row ≡ leaf_row symbol k → Says t cells slots starts found old before limit r (finish limit row n b) → Says t cells slots starts found old before limit r (after_word limit symbol b g)
  word_is symbol {n = n} e f h = says_by (ap (after_word limit symbol b) (sym e)) (says_row n b f h)

  pub number_fault : (at : ℕ) {g : Got (Option Scalar)} {p : ℕ} → fault p ≡ g → Says t cells slots starts found old before limit (Err (record { refusal = JsonFault; place = p })) (after_number limit at b g)
  number_fault at e = says_by (ap (after_number limit at b) (sym e)) (says_refused refl)

  pub number_outside : (at : ℕ) {g : Got (Option Scalar)} {n : ℕ} → got none n ≡ g → Says t cells slots starts found old before limit (Err (record { refusal = NumberForm; place = at })) (after_number limit at b g)
  number_outside at e = says_by (ap (after_number limit at b) (sym e)) (says_refused refl)

  pub number_is : (at : ℕ) {g : Got (Option Scalar)} {k : Scalar} {n : ℕ} {row : Row} {r : Result Part TextRefusal} → got (some k) n ≡ g → row ≡ leaf_row number_leaf k → Says t cells slots starts found old before limit r (finish limit row n b) → Says t cells slots starts found old before limit r (after_number limit at b g)
  number_is at {n = n} e f h = says_by (ap (after_number limit at b) (sym e)) (says_row n b f h)

  pub text_fault : {g : Got (List ℕ)} {p : ℕ} → g ≡ fault p → Says t cells slots starts found old before limit (Err (record { refusal = JsonFault; place = p })) (after_text limit b g)
  text_fault e = says_by (ap (after_text limit b) e) (says_refused refl)

-- the leaf of a number is none of a text
pub number_old : (used texts : ℕ) (k : Scalar) → Old used texts (leaf_row number_leaf k)
number_old used texts k = no_text used texts refl (λ e. omega (arith, e)) no_child

-- a number ends behind its first byte
pub scalar_behind : (t : List ℕ) (at : ℕ) {o : Option Scalar} {n : ℕ} → got o n ≡ as_scalar (number_at t at) → 0 < n
scalar_behind t at {o} {n} e = go (number_at t at) refl e
  where
    go : (g : Got Number) → number_at t at ≡ g → got o n ≡ as_scalar g → 0 < n
    go (got m k) q f = let a : n ≡ k = cc in let l = number_ahead t (number_read t q) in omega (arith, a, l)
    go (fault p) q f = let z : ⊥ = cc in absurd z

pub whole_string : (t : List ℕ) (at : ℕ) {slot next : ℕ} → got slot next ≡ as_slot (string_at t at) → WholeString t at slot next
whole_string t at {slot} {next} e = go (string_at t at) refl e
  where
    go : (g : Got (List ℕ)) → string_at t at ≡ g → got slot next ≡ as_slot g → WholeString t at slot next
    go (got bs n) q f =
        let a : next ≡ n = cc in
        let s : slot ≡ text_slot bs = cc in
        let l = string_ahead t (string_read t q) in
        record { bytes = bs; string = q ∙ ap (got bs) (sym a); slot_is = s; behind = omega (arith, a, l) }
    go (fault p) q f = let z : ⊥ = cc in absurd z

pub no_string : (t : List ℕ) (at : ℕ) {p : ℕ} → fault p ≡ as_slot (string_at t at) → string_at t at ≡ fault p
no_string t at {p} e = go (string_at t at) e
  where
    go : (g : Got (List ℕ)) → fault p ≡ as_slot g → g ≡ fault p
    go (got bs n) f = let z : ⊥ = cc in absurd z
    go (fault q) f = let a : q ≡ p = cc in ap fault a

-- the probe for a string that was read
pub probed_at : {t : List ℕ} {at slot next : ℕ} (starts found : List ℕ) → WholeString t at slot next → {p : Probed} → p ≡ probe found (λ k. same_text (string_at t at) (string_at t (get_or starts k 0))) slot → ProbedAt t starts found at next p
probed_at {t} {at} starts found w e =
    record {
      bytes = w.bytes;
      string = w.string;
      answer = e ∙ ap (probe found (λ k. same_text (string_at t at) (string_at t (get_or starts k 0)))) w.slot_is;
    }
