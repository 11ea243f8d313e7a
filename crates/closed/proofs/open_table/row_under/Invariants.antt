-- `open_table::row_under`: every cell of the row passed is under the strict one. Assumes nothing.
use Rattle.closed.proofs.Common.{table_of, version1}
use Rattle.closed.specs.Parts.{RowUnder}
use Rattle.closed.proofs.open_table.row_under.Given as goal

abbrev pub invariant-loop-y : goal.invariant-loop-y
invariant-loop-y l = RowUnder l.y (table_of version1 l.strict.n l.strict.cells.now) (table_of version1 l.open.n l.open.cells.now) l.x
