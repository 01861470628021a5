-- `document::rows::fields_at` meets its contract. Assumes nothing.
use Rattle.document.specs.Fields.{fields_in}
use Rattle.document.proofs.rows.fields_at.Goals as goal

pub returns : goal.returns
unfolding fields_in
returns c = cc
