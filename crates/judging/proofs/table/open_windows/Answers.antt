use Rattle.judging.proofs.Windowing.{opens}
use Rattle.judging.proofs.table.open_windows.Goals as goal

pub loop-p-preserved : goal.loop-p-preserved
loop-p-preserved c = search opens
