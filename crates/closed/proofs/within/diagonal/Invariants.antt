-- `within::diagonal`: every cell of the diagonal passed is 0. Assumes nothing.
use Rattle.closed.proofs.Common.{table_of, version1}
use Rattle.closed.specs.Parts.{Diagonal}
use Rattle.closed.proofs.within.diagonal.Given as goal

abbrev pub invariant-loop-x : goal.invariant-loop-x
invariant-loop-x l = Diagonal l.x (table_of version1 l.t.n l.t.cells.now)
