-- By the number of children, then by what the builder answered. Assumes nothing.
use mathlib.Core.Path.{◌∙◌}
use Rattle.automaton.proofs.Sound.{sound_decode}
use Rattle.term.proofs.Ending.{says_is, end_wrong, end_known, end_added, end_full}
use Rattle.term.proofs.reader.end_term.Goals as goal

pub returns-then-count-from : goal.returns-then-count-from
returns-then-count-from c js held = says_is _ _ _ _ c.refused.ensures (end_wrong _ _ _ _ c.requires _ _ c.args.next c.args.fields _ js held c.args.rows.now c.args.slots.now _ (c.from.ensures ∙ c.arity.ensures) c.if-count-from.true)

pub returns-in-Known : goal.returns-in-Known
returns-in-Known c js held =
    end_known _ _ _ _ c.requires _ _ c.args.next c.args.fields _ js held ((sound_decode _ c.args.source.now.sound).few_children _) _
    (c.from.ensures ∙ c.arity.ensures) c.if-count-from.false c.find_or_add.ensures.kept _ _ _ c.find_or_add.ensures.did _ c.in-Known.is

pub returns-in-Added : goal.returns-in-Added
returns-in-Added c js held =
    end_added _ _ _ _ c.requires _ _ c.args.next c.args.fields _ js held ((sound_decode _ c.args.source.now.sound).few_children _) _
    (c.from.ensures ∙ c.arity.ensures) c.if-count-from.false c.find_or_add.ensures.kept _ _ _ c.find_or_add.ensures.did _ c.in-Added.is

pub returns-in-Full : goal.returns-in-Full
returns-in-Full c js held =
    says_is _ _ _ _ c.refused-in-Full.ensures (end_full _ _ _ _ c.requires _ _ c.args.next c.args.fields _ js held ((sound_decode _ c.args.source.now.sound).few_children _) _
    (c.from.ensures ∙ c.arity.ensures) c.if-count-from.false c.find_or_add.ensures.kept _ _ _ c.find_or_add.ensures.did c.in-Full.is c.find_or_add.new.rows c.find_or_add.new.slots)
