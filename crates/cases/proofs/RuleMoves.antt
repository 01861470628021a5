-- The moves of rules are as document 02 has them: computed, against the definitions that the contracts cite. Assumes nothing.
use mathlib.Core.Path.{refl}
use Rattle.model.specs.Lists.{all_below}
use Rattle.model.specs.Refusal.{demand, and_after, unless}
use Rattle.automaton.specs.Form.{tags_width, state_width, rule_numbers, rule_width, kept_mask}
use Rattle.automaton.specs.Stored.{word, form_of, symbol_byte, final_byte, tags_at, tags_of, rule_word, forget_of, decode}
use Rattle.automaton.specs.Encode.{encode_header, encode_symbol, encode_tags, encode_state, mask_numbers, encode_places, encode}
use Rattle.automaton.specs.Check.{counts_ok, offsets_ok, symbol_ok, state_ok, place_ok, rule_ok, key_word, ascends_at, forget_ok, check_of}
use Rattle.forms.specs.Move.{move_check_of}
use Rattle.cases.specs.RuleMoves.{RuleMoves}

pub rule_moves : RuleMoves
unfolding all_below demand and_after unless tags_width state_width rule_numbers rule_width kept_mask word form_of symbol_byte final_byte tags_at tags_of rule_word forget_of decode encode_header encode_symbol encode_tags encode_state mask_numbers encode_places encode counts_ok offsets_ok symbol_ok state_ok place_ok rule_ok key_word ascends_at forget_ok check_of move_check_of
rule_moves =
    record {
      forms = (refl, refl, refl, refl, refl, refl, refl, refl, refl);
      bare = (refl, refl, refl, refl, refl, refl);
      there = (refl, refl);
      back = (refl, refl);
      none = (refl, refl, refl, refl);
      unsound = (refl, refl, refl);
      other_form = (refl, refl, refl, refl, refl, refl, refl, refl);
      forgotten = (refl, refl, refl, refl, refl);
      short = (refl, refl, refl, refl);
    }
