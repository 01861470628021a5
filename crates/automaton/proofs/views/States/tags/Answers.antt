-- `automaton::views::States::tags` meets its contract: the offset is the header's, and the width the form's. Assumes nothing.
use Rattle.automaton.specs.Stored.{tags_of}
use Rattle.automaton.proofs.views.States.tags.Goals as goal

pub returns : goal.returns
unfolding tags_of
returns c = cc (c.tags_at.ensures, c.state_place.ensures.0, c.args.self.in_form, c.args.self.at_first)
