-- `automaton::rule` meets its contract: an unknown rule has what nothing has. Assumes nothing.
use mathlib.Core.Path.{◌≡◌, ap, ◌∙◌}
use mathlib.Core.List.{List}
use Prim.Native.Nat.{ℕ}
use Rattle.model.specs.Limits.{max_children}
use Rattle.model.specs.Lists.{tab}
use Rattle.automaton.specs.Stored.{rule_word, place_of}
use Rattle.automaton.proofs.Decode.{reads, read_places}
use Rattle.automaton.proofs.rule.Goals as goal

pub returns-then-i-rules : goal.returns-then-i-rules
returns-then-i-rules c =
    let symbol : c.word-symbol.result ≡ rule_word c.args.set.now c.args.i 0 = cc in
    record {
      symbol = search reads;
      target = search reads;
      places = read_places _ _ _ _ _ c.rules.ensures c.if-i-rules.true symbol c.arity.ensures _ (c.places_of-places.ensures ∙ ap (λ (s : List ℕ). tab max_children (place_of s c.args.i c.arity.result)) (ap (λ r. r.now) c.of-stored.ensures));
      forget = search reads;
    }
