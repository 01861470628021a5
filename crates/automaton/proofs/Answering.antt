-- The answer of what writes a set, and the space that goes with it. Assumes nothing.
use mathlib.Core.Path.{◌≡◌, refl, sym, ap, ◌∙◌, subst}
use mathlib.Core.List.{List, ◌++◌}
use Prim.Native.Nat.{ℕ, zero, suc}
use native.Mathlib.Omega.{arith}
use lib.ListN.{take, drop}
use lib.Seq.{take_at}
use Rattle.model.specs.Automaton.{Automaton}
use Rattle.model.specs.Refusal.{gives, refuses, unless}
use Rattle.model.specs.Sound.{Sound}
use Rattle.automaton.specs.declared.Form.{Form}
use Rattle.std.specs.Prelude.{Result, Ok, Err}
use Rattle.base.specs.Refusals.{number}
use Rattle.base.specs.declared.refusal.Refusal.{Refusal}
use Rattle.automaton.specs.Form.{HasRoom}
use Rattle.automaton.specs.Encode.{encode, encoded_length, space_of}
use Rattle.automaton.specs.Answer.{written_answer, Stores}
use Rattle.base.proofs.Refusing.{some_number}
use Rattle.automaton.proofs.Encoded.{encode_length}
use Rattle.automaton.proofs.RoundTrip.{decode_encode, encode_sound}

module _ (form : Form) (A : Automaton) (space : List ℕ) where
  -- the answer and the space afterwards are those of the number k
  abbrev pub Answered : ℕ → Result ℕ Refusal → List ℕ → Type 0
  Answered k r after = (written_answer r ≡ unless k (encoded_length form A)) × (after ≡ space_of k form A space)

  pub refused_answer : (k : ℕ) (w : Refusal) → number w ≡ k → Answered k (Err w) space
  unfolding unless
  refused_answer zero w e = let s = some_number w in absurd (omega (arith, s.1))
  refused_answer (suc k) w e = (ap refuses e, refl)

  pub written_answer_lem : (k r : ℕ) (after : List ℕ) → k ≡ 0 → r ≡ encoded_length form A → after ≡ encode form A ++ drop r space → Answered k (Ok r) after
  unfolding unless
  written_answer_lem zero r after e el es = (ap gives el, es ∙ ap (λ (z : ℕ). encode form A ++ drop z space) el)
  written_answer_lem (suc k) r after e el es = absurd (omega arith)

  -- Where a length is given, there is no number, and so many bytes at the front are the automaton, stored ..
  pub given_length : (k n : ℕ) → unless k (encoded_length form A) ≡ gives n → (k ≡ 0) × (n ≡ encoded_length form A) × (take n (space_of k form A space) ≡ encode form A)
  unfolding unless
  given_length zero n e =
      let l : encoded_length form A ≡ n = cc in
      (refl, sym l, take_at (encode form A) (drop (encoded_length form A) space) n (encode_length form A ∙ l))
  given_length (suc k) n e = let z : ◌≡◌ {A = ℕ} 0 1 = cc in absurd (omega arith)

  -- .. which is a sound set where the automaton is sound and the form has room for it.
  pub given_stores : (k n : ℕ) → unless k (encoded_length form A) ≡ gives n → Sound A → HasRoom form A → Stores (take n (space_of k form A space)) A
  given_stores k n e s b = subst (λ (z : List ℕ). Stores z A) (sym (given_length k n e).2) (record { sound = encode_sound form A s b; decoded = decode_encode form A s b })
