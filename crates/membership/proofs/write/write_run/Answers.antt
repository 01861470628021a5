-- `membership::write::write_run` meets its contract: nothing is written where no annotation is accepting, else the run of the first. Assumes nothing.
use mathlib.Core.Path.{refl}
use Rattle.automaton.specs.Stored.{decode}
use Rattle.automaton.proofs.Sound.{sound_decode}
use Rattle.document.specs.Rows.{decode_rows}
use Rattle.membership.proofs.ByRow.{few_children}
use Rattle.membership.proofs.Rowing.{tags_small}
use Rattle.membership.proofs.Handing.{nothing_written, run_written}
use Rattle.membership.proofs.write.write_run.Goals as goal

pub returns-in_err-root : goal.returns-in_err-root
returns-in_err-root c =
    let narrow = few_children (decode c.args.set.now) (decode_rows c.args.rows.now) (sound_decode c.args.set.now c.requires.sound.0) c.requires.sound.1 in
    let tags = tags_small c.args.set.now (decode c.args.set.now).tags c.requires.sound.0 refl in
    rw c.from_residual.ensures (nothing_written (decode c.args.set.now) (decode_rows c.args.rows.now) narrow tags c.args.work.now c.args.n c.last_row-last.result.0 c.requires.few.0 c.requires.known.0 c.requires.known.1 c.last_row-last.ensures c.args.run.now c.in_err-root.ensures)

pub returns : goal.returns
returns c =
    let narrow = few_children (decode c.args.set.now) (decode_rows c.args.rows.now) (sound_decode c.args.set.now c.requires.sound.0) c.requires.sound.1 in
    let tags = tags_small c.args.set.now (decode c.args.set.now).tags c.requires.sound.0 refl in
    run_written (decode c.args.set.now) (decode_rows c.args.rows.now) narrow tags c.args.work.now c.args.n c.last_row-last.result.0 c.requires.few.0 c.requires.known.0 c.requires.known.1 c.last_row-last.ensures c.args.run.now c.in_ok-root.root c.in_ok-root.ensures.0 c.in_ok-root.ensures.1 c.trace.new.work c.write_steps.new.run c.write_steps.result c.trace.ensures c.write_steps.ensures
