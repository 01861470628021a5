-- A text is read the same with name lists that differ only in the spaces and bytes 13 at the ends of their lines (document 02, Wish 5). Assumes nothing.
use mathlib.Core.Path.{◌≡◌, ap, ◌∙◌}
use mathlib.Core.List.{List}
use Prim.Native.Nat.{ℕ, ◌/◌, min}
use lib.ListN.{length}
use Rattle.model.specs.Limits.{max_rows}
use Rattle.model.specs.Automaton.{arity_of}
use Rattle.automaton.specs.Stored.{decode}
use Rattle.automaton.specs.Check.{check_of}
use Rattle.names.specs.Names.{find_in}
use Rattle.names.specs.Check.{names_check_of}
use Rattle.names.specs.Saved.{SavedAlike}
use Rattle.names.proofs.Saved.{same_names, same_check}
use Rattle.document.specs.Rows.{row_cells}
use Rattle.term.specs.Grammar.{Setting}
use Rattle.term.specs.Read.{setting_for, read_text, unless_refused, read_of}

module _ (set text site site' built_in builtIn' : List ℕ) (space : ℕ) (v : SavedAlike site site') (w : SavedAlike built_in builtIn') where
  abbrev symbols : ℕ
  symbols = length (decode set).arities

  same_setting : setting_for set site built_in space ≡ setting_for set site' builtIn' space
  same_setting =
      ap {B = Setting} (λ names. record { symbol = find_in symbols names; arity = arity_of (decode set); limit = min max_rows (space / row_cells) })
      (same_names site site' built_in builtIn' v w)

  pub same_reading : read_of set site built_in text space ≡ read_of set site' builtIn' text space
  unfolding read_of
  same_reading =
      ap (λ n. unless_refused (check_of set) (unless_refused n (read_text (setting_for set site built_in space) text))) (same_check site site' built_in builtIn' v w symbols)
      ∙ ap (λ S. unless_refused (check_of set) (unless_refused (names_check_of symbols site' builtIn') (read_text S text))) same_setting
