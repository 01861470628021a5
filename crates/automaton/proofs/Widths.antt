-- The widths of the forms in sums, the form that a header tells, and tags read back. Assumes nothing.
use mathlib.Core.Path.{◌≡◌, refl, sym, ap, ◌∙◌}
use mathlib.Core.Bool.{cond}
use mathlib.Core.List.{List}
use Prim.Native.Nat.{ℕ, suc, ◌+◌, ◌*◌, ◌^◌, ◌≤◌, ◌<◌}
use native.Mathlib.Nat.{add-zero, mod-eq_of_lt, mul-le-mul_right, le_of_suc-le-suc}
use native.Mathlib.Omega.{arith}
use borrow.Author.Tests.{eq-eqb, ne_eqb}
use lib.Dec.{eqb}
use lib.ListN.{get_or}
use Rattle.model.specs.Limits.{max_children}
use Rattle.automaton.specs.Form.{tags_width, state_width, rule_numbers, rule_width, tag_bits, kept_mask, states_offset, rules_offset, total_length}
use Rattle.automaton.specs.declared.Form.{Form}
use Rattle.automaton.specs.declared.Form.TheVariants.{Narrow, Wide, Isolating}
use Rattle.automaton.specs.Stored.{word, state_count, rule_count, states_at, rules_at, stated_total, form_of, tags_at}
use Rattle.automaton.specs.Encode.{encode_tags}
use Rattle.automaton.proofs.Words.{word_back}

pub width_some : (form : Form) → 0 < state_width form
unfolding state_width
width_some form = omega arith

pub width_tags : (form : Form) (b : ℕ) → b < tags_width form → 1 + b < state_width form
unfolding state_width
width_tags form b l = omega arith

-- n times a width that is at most m
pub few_bytes : (w m n : ℕ) → w < suc m → w * n ≤ m * n
few_bytes w m n l = mul-le-mul_right n (le_of_suc-le-suc l)

-- Q states take at most three bytes each, R rules at most fourteen
pub states_most : (form : Form) (Q : ℕ) → state_width form * Q ≤ 3 * Q
unfolding state_width tags_width
states_most Narrow Q = omega arith
states_most Wide Q = omega arith
states_most Isolating Q = omega arith

pub rules_most : (form : Form) (R : ℕ) → rule_width form * R ≤ 14 * R
unfolding rule_width rule_numbers
rules_most Narrow R = omega arith
rules_most Wide R = omega arith
rules_most Isolating R = omega arith

-- a rule's numbers: six in every form, the seventh where it has a place
pub numbers_least : (form : Form) → max_children + 2 ≤ rule_numbers form
unfolding rule_numbers
numbers_least Narrow = omega arith
numbers_least Wide = omega arith
numbers_least Isolating = omega arith

pub numbers_most : (form : Form) → rule_numbers form ≤ max_children + 3
unfolding rule_numbers
numbers_most Narrow = omega arith
numbers_most Wide = omega arith
numbers_most Isolating = omega arith

pub width_numbers : (form : Form) → rule_width form ≡ 2 * rule_numbers form
unfolding rule_width
width_numbers form = refl

-- a form that the header of a set of R rules tells: without rules the forms that are wide have the same bytes, and are told as the one without masks
abbrev pub Told : Form → ℕ → Type 0
Told Narrow R = Unit {0}
Told Wide R = Unit {0}
Told Isolating R = 0 < R

-- The distance from the states at o to the rules tells the form, where there is a state, and then the total.
pub form_told : (form : Form) (S Q R q a r n t : ℕ) → 1 ≤ Q → Told form R → q ≡ Q → a ≡ states_offset S → r ≡ rules_offset form S Q → n ≡ R → t ≡ total_length form S Q R → cond (eqb r (a + state_width Wide * q)) (cond (eqb t (r + rule_width Wide * n)) Wide Isolating) Narrow ≡ form
unfolding state_width tags_width rule_width rule_numbers
form_told Narrow S Q R q a r n t l d eq ea er en et = rw (ne_eqb r (a + state_width Wide * q) (λ e. omega arith))
form_told Wide S Q R q a r n t l d eq ea er en et = rw (eq-eqb r (a + state_width Wide * q) (omega arith), eq-eqb t (r + rule_width Wide * n) (omega arith))
form_told Isolating S Q R q a r n t l d eq ea er en et = rw (eq-eqb r (a + state_width Wide * q) (omega arith), ne_eqb t (r + rule_width Wide * n) (λ e. omega arith))

-- Sets of as many symbols, states and rules are as long in two forms that the header tells only where these are one.
pub length_tells : (a b : Form) (S Q R : ℕ) → 1 ≤ Q → Told a R → Told b R → total_length a S Q R ≡ total_length b S Q R → a ≡ b
unfolding state_width tags_width rule_width rule_numbers
length_tells Narrow Narrow S Q R l d g e = refl
length_tells Narrow Wide S Q R l d g e = absurd (omega arith)
length_tells Narrow Isolating S Q R l d g e = absurd (omega arith)
length_tells Wide Narrow S Q R l d g e = absurd (omega arith)
length_tells Wide Wide S Q R l d g e = refl
length_tells Wide Isolating S Q R l d g e = absurd (omega arith)
length_tells Isolating Narrow S Q R l d g e = absurd (omega arith)
length_tells Isolating Wide S Q R l d g e = absurd (omega arith)
length_tells Isolating Isolating S Q R l d g e = refl

-- the same of the rules' offset x, the place `end` after wide states, the stated total t and the place `last` after rules without masks, as they were read
module _ (s : List ℕ) (x end : ℕ) (a : x ≡ rules_at s) (b : end ≡ states_at s + state_width Wide * state_count s) where
  pub form_narrow : (x ≡ end → ⊥) → Narrow ≡ form_of s
  unfolding form_of
  form_narrow h = rw (← a, ← b, ne_eqb x end h)

  module _ (h : x ≡ end) (t last : ℕ) (c : t ≡ stated_total s) (d : last ≡ x + rule_width Wide * rule_count s) where
    pub form_wide : t ≡ last → Wide ≡ form_of s
    unfolding form_of
    form_wide g = rw (← a, ← b, eq-eqb x end h, ← c, ← d, eq-eqb t last g)

    pub form_isolating : (t ≡ last → ⊥) → Isolating ≡ form_of s
    unfolding form_of
    form_isolating g = rw (← a, ← b, eq-eqb x end h, ← c, ← d, ne_eqb t last g)

-- tags are read back from the bytes that they are stored as
pub tags_read : (form : Form) (s : List ℕ) (k mask : ℕ) → mask < 2 ^ tag_bits form → ((b : ℕ) → b < tags_width form → get_or s (k + b) 0 ≡ get_or (encode_tags form mask) b 0) → tags_at form s k ≡ mask
unfolding tags_at tags_width encode_tags word
tags_read Narrow s k mask l h = ap (λ (n : ℕ). get_or s n 0) (sym (add-zero k)) ∙ h 0 (omega arith) ∙ mod-eq_of_lt l
tags_read Wide s k mask l h = rw (ap (λ (n : ℕ). get_or s n 0) (sym (add-zero k)) ∙ h 0 (omega arith), h 1 (omega arith)) (word_back mask l)
tags_read Isolating s k mask l h = rw (ap (λ (n : ℕ). get_or s n 0) (sym (add-zero k)) ∙ h 0 (omega arith), h 1 (omega arith)) (word_back mask l)

-- what a form keeps of a mask is no more than the mask
pub kept_mask_most : (form : Form) (mask : ℕ) → kept_mask form mask ≤ mask
unfolding kept_mask
kept_mask_most Narrow mask = omega arith
kept_mask_most Wide mask = omega arith
kept_mask_most Isolating mask = omega arith

-- .. and nothing but the mask, where it keeps that
pub kept_mask_twice : (form : Form) (mask : ℕ) → kept_mask form (kept_mask form mask) ≡ kept_mask form mask
unfolding kept_mask
kept_mask_twice Narrow mask = refl
kept_mask_twice Wide mask = refl
kept_mask_twice Isolating mask = refl
