use Rattle.runs.proofs.ByTag.{clearing}
use Rattle.runs.proofs.memories.tags_clear.Goals as goal

pub loop-k-init : goal.loop-k-init
loop-k-init c = search clearing

pub returns-then-not-tag_clear : goal.returns-then-not-tag_clear
returns-then-not-tag_clear c = search clearing

pub loop-k-preserved : goal.loop-k-preserved
loop-k-preserved c = search clearing
