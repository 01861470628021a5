-- Every limit lets in its largest and refuses one past it, and the line ends are as document 02 has them: computed. Assumes nothing.
use mathlib.Core.Path.{◌≡◌, refl, ap, ◌∙◌}
use mathlib.Core.Bool.{◌&&◌}
use mathlib.Core.List.{List, []}
use Prim.Native.Nat.{ℕ, ◌*◌, ◌/◌, ◌%◌}
use lib.Dec.{eqb, leb}
use lib.ListN.{length, replicate}
use Rattle.model.specs.Limits.{max_steps}
use Rattle.model.specs.Lists.{all_below}
use Rattle.model.specs.Tree.{levels}
use Rattle.model.specs.Refusal.{demand}
use Rattle.automaton.specs.Form.{tags_width, state_width, rule_numbers, rule_width, kept_mask}
use Rattle.automaton.specs.Stored.{word, symbol_byte, form_of, final_byte, tags_at, tags_of, rule_word}
use Rattle.automaton.specs.Encode.{encode_header}
use Rattle.automaton.specs.Check.{counts_ok, offsets_ok, symbol_ok, state_ok, place_ok, rule_ok, key_word, ascends_at, forget_ok, check_of}
use Rattle.document.specs.Check.{counted?, levels_check_of}
use Rattle.model.proofs.Tab.{length_tab}
use Rattle.runs.specs.Steps.{step_cells, step_in}
use Rattle.runs.specs.Check.{counted? as steps?}
use Rattle.membership.specs.Cells.{room_of}
use Rattle.names.specs.Lines.{lines, blank?, trimmed, line_at, line_count}
use Rattle.names.specs.Names.{letter?, digit?, name_byte?, name?, name_of, digits, default_name, shown_name}
use Rattle.names.specs.Check.{line_fits?, list_fits?, new?, distinct?, names_check_of}
use Rattle.names.specs.Saved.{on_windows}
use Rattle.cases.specs.Edges.{Edges}

-- 21 looks at the number of cells alone
by_length : (cells : List ℕ) → steps? cells ≡ (leb 1 (length cells / step_cells) && (leb (length cells / step_cells) max_steps && eqb (length cells % step_cells) 0))
unfolding steps?
by_length cells = ap (λ n. leb 1 n && (leb n max_steps && eqb (length cells % step_cells) 0)) (length_tab (length cells / step_cells) (step_in cells))

pub edges : Edges
unfolding all_below levels demand word symbol_byte tags_width state_width rule_numbers rule_width kept_mask form_of final_byte tags_at tags_of rule_word encode_header counts_ok offsets_ok symbol_ok state_ok place_ok rule_ok key_word ascends_at forget_ok check_of counted? levels_check_of room_of lines blank? trimmed line_at line_count letter? digit? name_byte? name? name_of digits default_name shown_name line_fits? list_fits? new? distinct? names_check_of on_windows
edges =
    record {
      symbols = (refl, refl, refl);
      states = (refl, refl, refl);
      rules = (refl, refl);
      short = refl;
      rows = (refl, refl, refl);
      levels = (refl, refl);
      steps = (by_length (replicate (4096 * step_cells) 0) ∙ refl, by_length (replicate (4097 * step_cells) 0) ∙ refl, by_length [] ∙ refl);
      room = (refl, refl);
      lines = (refl, refl, refl, refl);
      names = (refl, refl, refl);
      line_ends = (refl, refl, refl);
      elsewhere = (refl, refl, refl, refl);
      shown = (refl, refl);
      windows = refl;
    }
