-- Masks that are moved up: what is cut to 16 bits is stored as the whole would be. Assumes nothing.
use mathlib.Core.Path.{◌≡◌, refl, sym, ap, ◌∙◌}
use mathlib.Core.Bool.{Bool}
use mathlib.Core.List.{List, [], ◌∷◌, map}
use Prim.Native.Nat.{ℕ, ◌+◌, ◌-◌, ◌*◌, ◌%◌, ◌^◌, ◌≤◌, ◌<◌}
use native.Mathlib.Nat.{mul_left_comm, mul-one}
use native.Mathlib.Omega.{arith}
use lib.ListN.{length, get_or}
use lib.Pow.{pow-add, shl_exact}
use Rattle.model.specs.Automaton.{State, Automaton, no_state, state_at, final?}
use Rattle.model.specs.Boolean.{shift_state}
use Rattle.model.proofs.Members.{map_at}
use Rattle.automaton.specs.declared.Form.{Form}
use Rattle.automaton.specs.declared.Form.TheVariants.{Narrow, Wide, Isolating}
use Rattle.automaton.specs.Encode.{encode_tags, encode_state}
use Rattle.automaton.proofs.Encoded.{encode_of}
use Rattle.automaton.proofs.Words.{low_cut, word_cut}

-- fewer than 16 tags up, and 16 or more
pub moved_in : (mask x t : ℕ) → x ≡ mask → x < 65536 → t < 16 → x * 2 ^ t % 18446744073709551616 % 65536 ≡ mask * 2 ^ t % 65536
moved_in mask x t e l m = ap (λ (z : ℕ). z % 65536) (shl_exact 16 t 64 l (omega arith)) ∙ ap (λ (z : ℕ). z * 2 ^ t % 65536) e

pub moved_out : (mask t : ℕ) → 16 ≤ t → 0 ≡ mask * 2 ^ t % 65536
moved_out mask t l =
    let n : t ≡ 16 + (t - 16) = omega arith in
    let p : 2 ^ t ≡ 65536 * 2 ^ (t - 16) = ap (λ (z : ℕ). 2 ^ z) n ∙ pow-add 2 16 (t - 16) in
    let e : mask * 2 ^ t ≡ 65536 * (mask * 2 ^ (t - 16)) = ap (λ (z : ℕ). mask * z) p ∙ mul_left_comm mask 65536 (2 ^ (t - 16)) in
    rw e (omega arith)

-- a state whose mask was cut
pub state_cut : (form : Form) (final : Bool) (x y : ℕ) → x ≡ y % 65536 → encode_state form final x ≡ encode_state form final y
unfolding encode_state encode_tags
state_cut Narrow final x y e = rw (e, low_cut y)
state_cut Wide final x y e = rw (word_cut x y e)
state_cut Isolating final x y e = rw (word_cut x y e)

-- the bytes of state q of a set with its tags moved up by t
pub shifted_bytes : (form : Form) (A : Automaton) (t q : ℕ) → q < length A.states → (accepting : Bool) (mask moved : ℕ) → accepting ≡ final? A q → mask ≡ (state_at A q).mask → moved ≡ mask * 2 ^ t % 65536 → encode_state form accepting moved ≡ encode_of form (get_or (map (shift_state t) A.states) q no_state)
shifted_bytes form A t q l accepting mask moved e d m =
    state_cut form accepting moved (mask * 2 ^ t) m
    ∙ ap (λ (z : Bool). encode_state form z (mask * 2 ^ t)) e
    ∙ ap (λ (z : ℕ). encode_state form (final? A q) (z * 2 ^ t)) d
    ∙ sym (ap (encode_of form) (map_at (shift_state t) no_state no_state A.states q l))

-- moved up by nothing
pub states_zero : (qs : List State) → map (shift_state 0) qs ≡ qs
states_zero [] = refl
states_zero (q ∷ qs) = ap (◌∷ map (shift_state 0) qs) (λ i. record { final = q.final; mask = mul-one q.mask i }) ∙ ap (q ∷◌) (states_zero qs)
