-- `automaton::header` meets its contract: each count is a length. Assumes nothing.
use mathlib.Core.Path.{sym, ◌∙◌}
use Rattle.automaton.proofs.Decode.{symbols_are, states_are, tags_are, rules_are}
use Rattle.automaton.proofs.header.Goals as goal

pub returns : goal.returns
returns c =
    record {
      symbols = c.header_word.ensures ∙ sym (symbols_are _);
      states = c.header_word-2.ensures ∙ sym (states_are _);
      tags = c.header_word-3.ensures ∙ sym (tags_are _);
      rules = c.header_word-4.ensures ∙ sym (rules_are _);
      total = c.header_word-5.ensures;
    }
