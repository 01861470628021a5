-- `boolean::rules::union_keys` meets its contract: two runs of keys one after the other, merged. Assumes nothing.
use mathlib.Core.Path.{sym, ◌∙◌}
use Rattle.boolean.proofs.Keying.{firsts_room, firsts_count, seconds_end, space_room, space_count, both_room, both_count, merge_room, union_keyed}
use Rattle.boolean.proofs.rules.union_keys.Goals as goal

pub slice_bounds-shifted_keys-end : goal.slice_bounds-shifted_keys-end
slice_bounds-shifted_keys-end c = firsts_room _ _ c.requires.0 c.args.runs.now c.requires.1 _ _ (c.from-n.ensures ∙ c.header-a.ensures.rules) (c.from.ensures ∙ c.header.ensures.rules)

pub slice_bounds-shifted_keys-end-2 : goal.slice_bounds-shifted_keys-end-2
slice_bounds-shifted_keys-end-2 c = sym (firsts_count _ _ c.requires.0 c.args.runs.now c.requires.1 _ _ (c.from-n.ensures ∙ c.header-a.ensures.rules) (c.from.ensures ∙ c.header.ensures.rules))

pub shifted_keys-requires : goal.shifted_keys-requires
shifted_keys-requires c = (c.requires.0.first_sound, firsts_count _ _ c.requires.0 c.args.runs.now c.requires.1 _ _ (c.from-n.ensures ∙ c.header-a.ensures.rules) (c.from.ensures ∙ c.header.ensures.rules) ∙ (c.from-n.ensures ∙ c.header-a.ensures.rules))

pub slice_bounds-shifted_keys-end-3 : goal.slice_bounds-shifted_keys-end-3
slice_bounds-shifted_keys-end-3 c = seconds_end _ _ c.requires.0 c.args.runs.now c.requires.1 _ _ (c.from-n.ensures ∙ c.header-a.ensures.rules) (c.from.ensures ∙ c.header.ensures.rules) _ c.shifted_keys.ensures

pub slice_bounds-merge-end : goal.slice_bounds-merge-end
slice_bounds-merge-end c = both_room _ _ c.requires.0 c.args.runs.now c.requires.1 _ _ (c.from-n.ensures ∙ c.header-a.ensures.rules) (c.from.ensures ∙ c.header.ensures.rules) _ c.shifted_keys.ensures _ _ c.header-a.ensures.states c.header-a.ensures.tags _ c.shifted_keys-2.ensures

pub slice_bounds-merge-end-2 : goal.slice_bounds-merge-end-2
slice_bounds-merge-end-2 c = sym (both_count _ _ c.requires.0 c.args.runs.now c.requires.1 _ _ (c.from-n.ensures ∙ c.header-a.ensures.rules) (c.from.ensures ∙ c.header.ensures.rules) _ c.shifted_keys.ensures _ _ c.header-a.ensures.states c.header-a.ensures.tags _ c.shifted_keys-2.ensures)

pub slice_bounds-merge-end-3 : goal.slice_bounds-merge-end-3
slice_bounds-merge-end-3 c = space_room _ _ c.requires.0 c.args.runs.now c.requires.1 _ _ (c.from-n.ensures ∙ c.header-a.ensures.rules) (c.from.ensures ∙ c.header.ensures.rules) c.args.keys.now c.requires.2

pub slice_bounds-merge-end-4 : goal.slice_bounds-merge-end-4
slice_bounds-merge-end-4 c = sym (space_count _ _ c.requires.0 c.args.runs.now c.requires.1 _ _ (c.from-n.ensures ∙ c.header-a.ensures.rules) (c.from.ensures ∙ c.header.ensures.rules) c.args.keys.now c.requires.2)

pub merge-requires : goal.merge-requires
merge-requires c = merge_room _ _ c.requires.0 c.args.runs.now c.requires.1 _ _ (c.from-n.ensures ∙ c.header-a.ensures.rules) (c.from.ensures ∙ c.header.ensures.rules) _ c.shifted_keys.ensures _ _ c.header-a.ensures.states c.header-a.ensures.tags _ c.shifted_keys-2.ensures c.args.keys.now c.requires.2

pub returns : goal.returns
returns c = union_keyed _ _ c.requires.0 c.args.runs.now c.requires.1 _ _ (c.from-n.ensures ∙ c.header-a.ensures.rules) (c.from.ensures ∙ c.header.ensures.rules) _ c.shifted_keys.ensures _ _ c.header-a.ensures.states c.header-a.ensures.tags _ c.shifted_keys-2.ensures _ _ c.merge.ensures
