-- The two forms, their limits and the moves are as document 02 has them: computed, against the definitions that the contracts cite. Assumes nothing.
use mathlib.Core.Path.{refl}
use Rattle.model.specs.Lists.{all_below}
use Rattle.model.specs.Refusal.{demand, and_after, unless}
use Rattle.automaton.specs.Form.{tags_width, state_width, rule_numbers, rule_width, kept_mask}
use Rattle.automaton.specs.Stored.{word, form_of, symbol_byte, final_byte, tags_at, tags_of, rule_word, place_of, forget_of, decode}
use Rattle.automaton.specs.Encode.{encode_header, encode_symbol, encode_tags, encode_state, mask_numbers, encode_places, encode}
use Rattle.automaton.specs.Check.{counts_ok, offsets_ok, symbol_ok, state_ok, place_ok, rule_ok, key_word, ascends_at, forget_ok, check_of}
use Rattle.boolean.specs.Combine.{result_form, same_symbols, within_limits, result_check_of, combine_check_of}
use Rattle.forms.specs.Move.{move_check_of}
use Rattle.cases.specs.SixteenTags.{SixteenTags}

pub sixteen_tags : SixteenTags
unfolding all_below demand and_after unless tags_width state_width rule_numbers rule_width kept_mask word form_of symbol_byte final_byte tags_at tags_of rule_word place_of forget_of decode encode_header encode_symbol encode_tags encode_state mask_numbers encode_places encode counts_ok offsets_ok symbol_ok state_ok place_ok rule_ok key_word ascends_at forget_ok check_of result_form same_symbols within_limits result_check_of combine_check_of move_check_of
sixteen_tags =
    record {
      forms = (refl, refl, refl, refl);
      narrow = (refl, refl, refl, refl);
      wide = (refl, refl, refl);
      states = (refl, refl);
      masks = (refl, refl, refl, refl, refl, refl);
      there = (refl, refl, refl);
      back = (refl, refl, refl);
      refused = (refl, refl, refl, refl, refl, refl, refl);
      together = (refl, refl, refl, refl, refl);
    }
