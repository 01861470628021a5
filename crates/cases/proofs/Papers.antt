-- Sets E and G are rigid tree automata of the papers: each tag has exactly one state, and no state two tags. Assumes nothing.
use mathlib.Core.Path.{◌≡◌, refl}
use mathlib.Core.Bool.{true, false}
use Rattle.model.specs.Lists.{all_below, any_below}
use Rattle.model.specs.Papers.{Papers, papers?}
use Rattle.model.proofs.Papers.{papers_exactly}
use Rattle.automaton.specs.Form.{tags_width, state_width, rule_numbers, rule_width, kept_mask}
use Rattle.automaton.specs.Stored.{word, symbol_byte, form_of, final_byte, tags_at, tags_of, rule_word, place_of, forget_of, decode}
use Rattle.cases.specs.Sets.{set_e, set_g, set_eB}

pub of_papers : (papers? (decode set_e) ≡ true) × (papers? (decode set_g) ≡ true)
unfolding all_below any_below word symbol_byte tags_width state_width rule_numbers rule_width kept_mask form_of final_byte tags_at tags_of rule_word place_of forget_of decode
of_papers = (refl, refl)

-- the condition of the theorem `papers` is met
pub papers_E : Papers (decode set_e)
papers_E = (papers_exactly (decode set_e)).0 of_papers.0

pub papers_G : Papers (decode set_g)
papers_G = (papers_exactly (decode set_g)).0 of_papers.1

-- E and B demanded together is none of them: its tag is on three states
pub not_of_papers : papers? (decode set_eB) ≡ false
unfolding all_below any_below word symbol_byte tags_width state_width rule_numbers rule_width kept_mask form_of final_byte tags_at tags_of rule_word place_of forget_of decode
not_of_papers = refl
