-- A weight in range is a number of a cell. Assumes nothing.
use Rattle.lowering.proofs.Common.{limit_cell}
use Rattle.joining.proofs.Taking.{limit_number}
use Rattle.joining.proofs.table.Table.limit_cell.Goals as goal

pub returns : goal.returns
unfolding limit_cell
returns g c =
    let w = g.met.W.Word in
    rw (limit_number w.room w.weights c.requires c.number.ensures) at c.lower_cell.ensures
