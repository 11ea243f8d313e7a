-- `within::row_within`: every cell passed is in range. Assumes nothing.
use Rattle.closed.proofs.Common.{table_of, version1}
use Rattle.closed.specs.Parts.{RowWithin}
use Rattle.closed.proofs.within.row_within.Given as goal

abbrev pub invariant-loop-y : goal.invariant-loop-y
invariant-loop-y l = RowWithin version1.reach l.y (table_of version1 l.n l.cells) l.x
