-- `boolean::keys::paired_key` meets its contract: the key of the parts of both. Assumes nothing.
use native.Mathlib.Nat.{add-mod-mod}
use native.Mathlib.Omega.{arith}
use mathlib.Core.Path.{ap, ◌∙◌}
use Prim.Native.Nat.{ℕ, ◌+◌, ◌*◌, ◌%◌, ◌^◌}
use lib.ListN.{get_or}
use Rattle.boolean.specs.Key.{mask_width, paired_place}
use Rattle.boolean.proofs.Packing.{numbers, number_at, product_low, key_made}
use Rattle.boolean.proofs.keys.paired_key.Goals as goal

pub overflow_mul-from : goal.overflow_mul-from
overflow_mul-from c = let e = product_low c.from.result c.from-2.result (omega (arith, c.ranges)) (omega (arith, c.ranges)) in omega arith

pub overflow_add-from : goal.overflow_add-from
overflow_add-from c = let e = product_low c.from.result c.from-2.result (omega (arith, c.ranges)) (omega (arith, c.ranges)) in omega (arith, c.ranges)

pub returns : goal.returns
returns c =
    c.key.ensures
    ∙ key_made _ c.paired_place.result c.paired_place-2.result c.paired_place-3.result c.paired_place-4.result _ _ _ (c.args.r.forget + c.args.s.forget * 2 ^ c.args.t)
    (λ k. paired_place c.args.n (get_or (numbers c.args.r.places) k 0) (get_or (numbers c.args.s.places) k 0))
    (c.paired_place.ensures ∙ ap (λ (z : ℕ). paired_place c.args.n z (get_or c.args.s.places 0 (record { 0 = 0 })).0) (number_at c.args.r.places 0) ∙ ap (paired_place c.args.n (get_or (numbers c.args.r.places) 0 0)) (number_at c.args.s.places 0))
    (c.paired_place-2.ensures ∙ ap (λ (z : ℕ). paired_place c.args.n z (get_or c.args.s.places 1 (record { 0 = 0 })).0) (number_at c.args.r.places 1) ∙ ap (paired_place c.args.n (get_or (numbers c.args.r.places) 1 0)) (number_at c.args.s.places 1))
    (c.paired_place-3.ensures ∙ ap (λ (z : ℕ). paired_place c.args.n z (get_or c.args.s.places 2 (record { 0 = 0 })).0) (number_at c.args.r.places 2) ∙ ap (paired_place c.args.n (get_or (numbers c.args.r.places) 2 0)) (number_at c.args.s.places 2))
    (c.paired_place-4.ensures ∙ ap (λ (z : ℕ). paired_place c.args.n z (get_or c.args.s.places 3 (record { 0 = 0 })).0) (number_at c.args.r.places 3) ∙ ap (paired_place c.args.n (get_or (numbers c.args.r.places) 3 0)) (number_at c.args.s.places 3))
    (ap (λ (z : ℕ). z * c.from-2.result + c.from-3.result) c.from.ensures ∙ ap (λ (z : ℕ). c.args.r.target.0 * z + c.from-3.result) c.from-2.ensures ∙ ap (c.args.r.target.0 * c.args.n +◌) c.from-3.ensures)
    (ap (λ (z : ℕ). (z + c.from-5.result) % 2 ^ mask_width) c.from-4.ensures
    ∙ ap (λ (z : ℕ). (c.args.r.forget + z) % 2 ^ mask_width) (c.from-5.ensures ∙ c.moved_up.ensures)
    ∙ add-mod-mod c.args.r.forget (c.args.s.forget * 2 ^ c.args.t) (2 ^ mask_width))
