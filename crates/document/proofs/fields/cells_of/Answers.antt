-- `document::fields::cells_of` meets its contract, cell by cell. Assumes nothing.
use borrow.Author.Rules.{rules}
use Rattle.document.proofs.Numbers.{rows_long}
use Rattle.document.proofs.Encoding.{kept_fields}
use Rattle.document.proofs.fields.cells_of.Goals as goal

pub returns : goal.returns
returns c =
    record {
      value = rw (
        c.low_cell-4.ensures,
        c.low_cell-3.ensures,
        c.low_cell-2.ensures,
        c.low_cell.ensures,
        c.payload-x.ensures,
        c.kind-k.ensures,
        c.settled-p.ensures,
      );
      kept = kept_fields c.args.f c.payload-x.result c.payload-x.ensures (search rules) (search (rows_long, rules));
    }
