-- `boolean::keys::unpack` meets its contract: what it reads off the key is the rule. Assumes nothing.
use mathlib.Core.Path.{◌∙◌, ap, refl}
use Prim.Native.Nat.{ℕ}
use Rattle.model.specs.Automaton.{arity_of}
use Rattle.automaton.specs.Stored.{decode}
use Rattle.boolean.proofs.Packing.{unpacked_places}
use Rattle.boolean.proofs.keys.unpack.Goals as goal

pub returns : goal.returns
returns c =
    record {
      symbol = c.digit_at-symbol.ensures;
      target = c.digit_at.ensures;
      places = c.places_of-places.ensures ∙ unpacked_places (decode c.args.set.now).arities c.args.x _ (c.arity.ensures ∙ ap (λ (f : ℕ). arity_of (decode c.args.set.now) f) c.digit_at-symbol.ensures);
      forget = refl;
    }
