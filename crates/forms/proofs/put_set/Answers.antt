-- `forms::put_set` meets its contract: each part is put where the one before it ends. Assumes nothing.
use Rattle.automaton.specs.Stored.{decode}
use Rattle.forms.proofs.Moving.{set_put, header_put}
use Rattle.forms.proofs.put_set.Goals as goal

pub returns : goal.returns
returns c =
    let p = header_put c.args.form (decode c.args.set.now) _ _ _ _ c.header-h.ensures.symbols c.header-h.ensures.states c.header-h.ensures.tags c.header-h.ensures.rules c.args.out.now _ _ c.put_header-symbols.ensures in
    set_put c.args.form (decode c.args.set.now) c.args.out.now c.requires _ _ _ _ _ _ _ _ p c.put_symbols-states.ensures c.put_states-rules.ensures c.put_rules.ensures
