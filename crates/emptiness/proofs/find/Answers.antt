-- `emptiness::find` meets its contract: without a state there is no witness, else the rows built are its. Assumes nothing.
use Rattle.emptiness.proofs.Verdicts.{live_answer, live_space}
use Rattle.emptiness.proofs.find.Goals as goal

pub returns : goal.returns
returns c = record {
  answer = live_answer _ _ c.mark.ensures _ c.in_ok-m.was _ _ _ _ _ _ c.args.set.sound c.args.set.all_states (rw c.args.set.all_states c.requires) c.build.ensures;
  space = live_space _ _ c.mark.ensures _ c.in_ok-m.was _ _ _ _ _ _ c.args.set.sound c.args.set.all_states (rw c.args.set.all_states c.requires) c.build.ensures;
}
