-- What union and product answer, and the space that goes with it. Assumes nothing.
use Rattle.std.specs.Prelude.{List, ℕ, length}
use Rattle.model.specs.Automaton.{Automaton}
use Rattle.model.specs.Refusal.{Answer, unless}
use Rattle.automaton.specs.Stored.{decode}
use Rattle.automaton.specs.Encode.{encoded_length, space_of}
use Rattle.boolean.specs.Combine.{result_form, combine_check_of}

-- What is answered of two sets of which `result` is made in a space: the length of its stored form, unless they are refused ..
abbrev pub combined_of : (Automaton → Automaton → Automaton) → List ℕ → List ℕ → List ℕ → Answer ℕ
combined_of result first second space = unless (combine_check_of result first second (length space)) (encoded_length (result_form first second) (result (decode first) (decode second)))

-- .. and the space afterwards.
abbrev pub combined_space : (Automaton → Automaton → Automaton) → List ℕ → List ℕ → List ℕ → List ℕ
combined_space result first second space = space_of (combine_check_of result first second (length space)) (result_form first second) (result (decode first) (decode second)) space
