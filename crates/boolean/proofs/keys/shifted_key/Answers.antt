-- `boolean::keys::shifted_key` meets its contract: the key of its parts, each shifted. Assumes nothing.
use native.Mathlib.Nat.{mod-mod}
use mathlib.Core.Path.{ap, ◌∙◌}
use Prim.Native.Nat.{ℕ, ◌+◌, ◌*◌, ◌%◌, ◌^◌}
use lib.ListN.{get_or}
use Rattle.boolean.specs.Key.{mask_width, shifted_place}
use Rattle.boolean.proofs.Packing.{numbers, number_at, key_made}
use Rattle.boolean.proofs.keys.shifted_key.Goals as goal

pub returns : goal.returns
returns c =
    c.key.ensures
    ∙ key_made _ c.shifted_place.result c.shifted_place-2.result c.shifted_place-3.result c.shifted_place-4.result _ _ _ (c.args.r.forget * 2 ^ c.args.t)
    (λ k. shifted_place c.args.n (get_or (numbers c.args.r.places) k 0))
    (c.shifted_place.ensures ∙ ap (shifted_place c.args.n) (number_at c.args.r.places 0))
    (c.shifted_place-2.ensures ∙ ap (shifted_place c.args.n) (number_at c.args.r.places 1))
    (c.shifted_place-3.ensures ∙ ap (shifted_place c.args.n) (number_at c.args.r.places 2))
    (c.shifted_place-4.ensures ∙ ap (shifted_place c.args.n) (number_at c.args.r.places 3))
    (ap (λ (z : ℕ). z + c.from-2.result) c.from.ensures ∙ ap (c.args.n +◌) c.from-2.ensures)
    (ap (λ (z : ℕ). z % 2 ^ mask_width) (c.from-3.ensures ∙ c.moved_up.ensures) ∙ mod-mod (c.args.r.forget * 2 ^ c.args.t) (2 ^ mask_width))
