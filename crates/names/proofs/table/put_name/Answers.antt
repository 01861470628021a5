-- The name in the cell, put. Assumes nothing.
use Rattle.names.proofs.table.put_name.Goals as goal

pub returns : goal.returns
returns c = cc
