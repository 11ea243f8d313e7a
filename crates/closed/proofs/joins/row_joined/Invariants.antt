-- `joins::row_joined`: whether every cell passed is under its sum. Assumes nothing.
use Rattle.closed.proofs.Common.{Decides, table_of, version1}
use Rattle.closed.specs.Parts.{RowJoined}
use Rattle.closed.proofs.joins.row_joined.Given as goal

abbrev pub invariant-loop-z : goal.invariant-loop-z
invariant-loop-z l = Decides l.held (RowJoined l.z (table_of version1 l.t.n l.t.cells.now) l.y l.x)
