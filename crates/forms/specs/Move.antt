-- A set moved from one stored form to another: which number refuses it, what is answered, and the space (document 02, Wishes 2, 9 and 10). Assumes nothing.
use Rattle.std.specs.Prelude.{◌≡◌, List, Bool, ◌||◌, ℕ, leb, eqb, length}
use Rattle.model.specs.Automaton.{forgets_nothing?}
use Rattle.model.specs.Refusal.{Answer, demand, and_after, unless}
use Rattle.automaton.specs.declared.Form.{Form}
use Rattle.automaton.specs.Form.{tag_bits, isolating?}
use Rattle.automaton.specs.Stored.{decode}
use Rattle.automaton.specs.Check.{check_of}
use Rattle.automaton.specs.Encode.{encoded_length, space_of}

-- A sound set is in a form where it is as long as that form makes it: a wide set with no rules is in both wide forms, any other set in one form.
abbrev pub in_form : Form → List ℕ → Bool
in_form form set = eqb (length set) (encoded_length form (decode set))

-- The number for a set to be moved to another form in a space of so many bytes, 0 for none: the set's own; 18 where it is not in the form that the move
-- starts from; 8 where it has more tags than the other form has bits for; 10 where it forgets tags that the other form has no place for; 53.
unfoldable pub move_check_of : Form → Form → List ℕ → ℕ → ℕ
move_check_of from to set space =
    and_after (check_of set)
    (demand (in_form from set) 18
    (demand (leb (decode set).tags (tag_bits to)) 8
    (demand (isolating? to || forgets_nothing? (decode set)) 10
    (demand (leb (encoded_length to (decode set)) space) 53 0))))

-- What is answered: the length of the set in the other form, unless it is refused ..
abbrev pub moved_of : Form → Form → List ℕ → List ℕ → Answer ℕ
moved_of from to set space = unless (move_check_of from to set (length space)) (encoded_length to (decode set))

-- .. and the space afterwards.
abbrev pub moved_space : Form → Form → List ℕ → List ℕ → List ℕ
moved_space from to set space = space_of (move_check_of from to set (length space)) to (decode set) space

-- Two stored sets that stand for one automaton: the check says the same of both, and so does all that goes by these two.
pub record SameSet (s s' : List ℕ) : Type 0 where
  pub checked : check_of s ≡ check_of s'
  pub decoded : decode s ≡ decode s'
