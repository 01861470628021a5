-- The states of a result and its parts in the stored form. Assumes nothing.
use mathlib.Core.Path.{◌≡◌, sym, ap, ◌∙◌}
use mathlib.Core.List.{List, ◌++◌, map}
use mathlib.Core.Bool.{Bool, ◌&&◌}
use Prim.Native.Nat.{ℕ, ◌+◌, ◌*◌, ◌/◌, ◌%◌, ◌^◌, ◌<◌, ◌≤◌}
use native.Mathlib.Nat.{lt_of_lt_of_le, mod-eq_of_lt}
use native.Mathlib.Omega.{arith}
use lib.Pow.{pow_mono, shl_lt}
use lib.ListN.{length, get_or, length-append}
use Rattle.model.specs.Limits.{max_tags}
use Rattle.model.specs.Lists.{concat_map}
use Rattle.model.specs.Automaton.{State, Automaton, no_state, state_at, final?}
use Rattle.model.specs.Boolean.{shift_state, union, product}
use Rattle.model.proofs.Combine.{mask_bound, product_state_at}
use Rattle.automaton.specs.declared.Form.{Form}
use Rattle.automaton.specs.Encode.{encode_header, encode_symbol, encode_state, encode_rule, encode_states, encode, encoded_length}
use Rattle.automaton.proofs.Encoded.{encode_length}
use Rattle.boolean.specs.Ready.{Sized, front}
use Rattle.boolean.specs.declared.Size.{Size}
use Rattle.automaton.proofs.Parts.{concat_map_append}
use Rattle.automaton.proofs.Shifted.{states_zero}

-- masks that are shifted and added keep within the tags' number, and so nothing is lost of what is shifted
pub pair_low : (m l t n : ℕ) → m < 2 ^ t → l < 2 ^ n → t + n ≤ max_tags → m + l * 2 ^ t < 65536
pair_low m l t n a b c = lt_of_lt_of_le (mask_bound m l t n a b) (pow_mono c)

pub shift_whole : (l u t n x : ℕ) → u ≡ t → l < 2 ^ n → t + n ≤ max_tags → x ≡ l * 2 ^ u % 65536 → x ≡ l * 2 ^ t
shift_whole l u t n x d b c e =
    e ∙ ap (λ (z : ℕ). l * 2 ^ z % 65536) d ∙ mod-eq_of_lt (lt_of_lt_of_le (shl_lt n t b) (pow_mono (let z : n + t ≤ max_tags = omega arith in z)))

-- the bytes of state i of a product
module _ (form : Form) (A B : Automaton) (i : ℕ) (l : i < length A.states * length B.states) where
  pub pair_bytes : (p q : Bool) (m k x : ℕ) → p ≡ final? A (i / length B.states) → q ≡ final? B (i % length B.states) → m ≡ (state_at A (i / length B.states)).mask → x ≡ k * 2 ^ A.tags → k ≡ (state_at B (i % length B.states)).mask → encode_state form (p && q) (m + x) ≡ encode_state form (get_or (product A B).states i no_state).final (get_or (product A B).states i no_state).mask
  pair_bytes p q m k x ep eq em ex ek =
      ap (λ (z : Bool). encode_state form (z && q) (m + x)) ep
      ∙ ap (λ (z : Bool). encode_state form (final? A (i / length B.states) && z) (m + x)) eq
      ∙ ap (λ (z : ℕ). encode_state form (final? A (i / length B.states) && final? B (i % length B.states)) (z + x)) em
      ∙ ap (λ (z : ℕ). encode_state form (final? A (i / length B.states) && final? B (i % length B.states)) ((state_at A (i / length B.states)).mask + z)) (ex ∙ ap (λ (z : ℕ). z * 2 ^ A.tags) ek)
      ∙ sym (ap (λ (z : State). encode_state form z.final z.mask) (product_state_at A B i l))

-- The states of a union, in the order in which they are written.
pub both_states : (form : Form) (A B : Automaton) → encode_states form (map (shift_state 0) A.states) ++ encode_states form (map (shift_state A.tags) B.states) ≡ encode_states form (union A B).states
both_states form A B =
    ap (λ (z : List ℕ). z ++ encode_states form (map (shift_state A.tags) B.states)) (ap (encode_states form) (states_zero A.states))
    ∙ sym (concat_map_append (λ (q : State). encode_state form q.final q.mask) A.states (map (shift_state A.tags) B.states))

-- The parts of a result's stored form, whose symbols are those of A.
module _ (form : Form) (A R : Automaton) (same : R.arities ≡ A.arities) where
  abbrev its_front : List ℕ
  its_front = front form A (length R.states) R.tags (length R.rules)

  pub result_parts : its_front ++ encode_states form R.states ++ concat_map (encode_rule form) R.rules ≡ encode form R
  unfolding encode
  result_parts = ap (λ (z : List ℕ). encode_header form (length z) (length R.states) R.tags (length R.rules) ++ concat_map encode_symbol z ++ encode_states form R.states ++ concat_map (encode_rule form) R.rules) (sym same)

  -- how long the parts are together
  pub result_lengths : length its_front + length (encode_states form R.states) + length (concat_map (encode_rule form) R.rules) ≡ encoded_length form R
  result_lengths =
      let a = length-append its_front (encode_states form R.states) in
      let b = length-append (its_front ++ encode_states form R.states) (concat_map (encode_rule form) R.rules) in
      let e = ap length result_parts in
      let d = encode_length form R in
      omega arith

-- the front of a result whose counts were read
pub sized_front : (form : Form) (A R : Automaton) (size : Size) → Sized size R → front form A size.states size.tags size.rules ≡ front form A (length R.states) R.tags (length R.rules)
sized_front form A R size s =
    ap (λ (z : ℕ). front form A z size.tags size.rules) s.states
    ∙ ap (λ (z : ℕ). front form A (length R.states) z size.rules) s.tags
    ∙ ap (front form A (length R.states) R.tags) s.rules
