-- Sets whose rules forget tags are as document 02 has them: computed, against the definitions that the contracts cite. Assumes nothing.
use mathlib.Core.Path.{refl}
use Rattle.model.specs.Lists.{all_below, any_below, uses?}
use Rattle.model.specs.Tree.{levels, highest}
use Rattle.model.specs.Refusal.{demand, and_after, unless}
use Rattle.model.specs.Build.{add_tree, add_forest, rows_of}
use Rattle.automaton.specs.Form.{tags_width, state_width, rule_numbers, rule_width, kept_mask}
use Rattle.automaton.specs.Stored.{word, symbol_byte, form_of, final_byte, tags_at, tags_of, rule_word, place_of, forget_of, decode}
use Rattle.automaton.specs.Encode.{encode_header, encode_symbol, encode_tags, encode_state, mask_numbers, encode_places, encode}
use Rattle.automaton.specs.Check.{counts_ok, offsets_ok, symbol_ok, state_ok, place_ok, rule_ok, key_word, ascends_at, forget_ok, check_of}
use Rattle.document.specs.Rows.{cell_in}
use Rattle.document.specs.Check.{counted?, known?, place_in, child?, children?, scalar_fits?, form_check_of, fresh?, distinct_check_of, used?, used_check_of, levels_check_of, table_check_of}
use Rattle.runs.specs.Steps.{cell_in as step_cell, place_in as step_place}
use Rattle.runs.specs.Check.{counted? as steps?, run_check_of}
use Rattle.model.specs.WrittenTest.{child_fits?, place_fits?, step_fits?}
use Rattle.emptiness.specs.Answer.{sample_check_of, witness_check_of}
use Rattle.names.specs.Lines.{lines, blank?, trimmed, line_at, line_count}
use Rattle.names.specs.Names.{letter?, digit?, name_byte?, name?, name_of, digits, default_name, shown_name, first_below, find_in}
use Rattle.names.specs.Check.{line_fits?, list_fits?, new?, distinct?, names_check_of}
use Rattle.term.specs.Scan.{leading, name_bytes, name_at, word_bytes, word_at, digits_from, number_at, hex_digit?, hex_value, hex_from, value_at, scalar_at}
use Rattle.term.specs.Grammar.{end_term, read_args, read_term}
use Rattle.term.specs.Read.{read_text, read_of}
use Rattle.membership.specs.Cells.{room_of}
use Rattle.membership.specs.Judge.{judge_check_of}
use Rattle.boolean.specs.Combine.{result_form, same_symbols, within_limits, result_check_of, combine_check_of}
use Rattle.forms.specs.Move.{move_check_of}
use Rattle.cases.specs.EqualPairs.{EqualPairs}

pub equal_pairs : EqualPairs
unfolding all_below any_below place_of levels highest demand and_after unless add_tree add_forest rows_of word symbol_byte tags_width state_width rule_numbers rule_width kept_mask form_of final_byte tags_at tags_of rule_word forget_of decode encode_header encode_symbol encode_tags encode_state mask_numbers encode_places encode counts_ok offsets_ok symbol_ok state_ok place_ok rule_ok key_word ascends_at forget_ok check_of cell_in counted? known? place_in child? children? scalar_fits? form_check_of fresh? distinct_check_of uses? used? used_check_of levels_check_of table_check_of sample_check_of witness_check_of lines blank? trimmed line_at line_count letter? digit? name_byte? name? name_of digits default_name shown_name first_below find_in line_fits? list_fits? new? distinct? names_check_of leading name_bytes name_at word_bytes word_at digits_from number_at hex_digit? hex_value hex_from value_at scalar_at end_term read_args read_term read_text read_of room_of judge_check_of result_form same_symbols within_limits result_check_of combine_check_of move_check_of step_cell step_place steps? run_check_of child_fits? place_fits? step_fits?
equal_pairs =
    record {
      documents =
          ((refl, refl, refl), ((refl, refl, refl), ((refl, refl, refl), ((refl, refl, refl), ((refl, refl, refl), ((refl, refl, refl), ((refl, refl, refl), ((refl, refl, refl), ((refl, refl, refl), ((refl, refl, refl), ((refl, refl, refl), ((refl, refl, refl), ((refl, refl, refl), (refl, ((refl, refl), ((refl, refl), ((refl, refl), tt)))))))))))))))));
      forms = (refl, refl, refl, refl, refl);
      longest = refl;
      checked = (refl, refl, refl, refl, refl);
      narrow = refl;
      masks = (refl, refl, refl, refl);
      forgets = (refl, refl, refl);
      source = (refl, refl, refl);
      steps = (refl, refl);
      unions = (refl, refl, refl, refl, refl);
      products = (refl, refl, refl, refl, refl);
      moved = (refl, refl, refl, refl);
    }
