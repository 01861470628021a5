-- Two cells, then two. Assumes nothing.
use Rattle.document.proofs.WordCells.{put_pairs}
use Rattle.document.proofs.words.put_four.Goals as goal

pub returns : goal.returns
returns c = put_pairs c.args.rows.now c.args.at c.args.x c.put_two.new.rows c.put_two-2.new.rows c.requires c.put_two.ensures c.put_two-2.ensures
