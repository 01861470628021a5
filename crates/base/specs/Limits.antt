-- The constants of the code are the limits of the model. Assumes nothing.
use Rattle.std.specs.Prelude.{◌≡◌}
use Rattle.model.specs.Limits.{max_symbols, max_children, max_states, max_tags, max_rules, max_rows, max_levels, max_steps, unused}
use Rattle.base.specs.declared.limits.Limits.{Limits}

pub record AsInModel (l : Limits) : Type 0 where
  pub symbols : l.symbols ≡ max_symbols
  pub children : l.children ≡ max_children
  pub states : l.states ≡ max_states
  pub tags : l.tags ≡ max_tags
  pub rules : l.rules ≡ max_rules
  pub rows : l.rows ≡ max_rows
  pub levels : l.levels ≡ max_levels
  pub steps : l.steps ≡ max_steps
  pub none : l.unused ≡ unused
  pub places : l.places ≡ max_children
