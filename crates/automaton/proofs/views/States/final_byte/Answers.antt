-- `automaton::views::States::final_byte` meets its contract: the offset is the header's, and the width the form's. Assumes nothing.
use Rattle.automaton.specs.Stored.{final_byte}
use Rattle.automaton.proofs.views.States.final_byte.Goals as goal

pub returns : goal.returns
unfolding final_byte
returns c = cc (c.byte_at.ensures.0, c.state_place.ensures.0, c.args.self.in_form, c.args.self.at_first)
