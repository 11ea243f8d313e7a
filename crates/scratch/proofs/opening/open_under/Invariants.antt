-- A turn for each row passed. Assumes nothing.
use Rattle.lowering.proofs.Common.{adding, open_row}
use Rattle.joining.proofs.Taking.{Turned}
use Rattle.scratch.proofs.opening.open_under.Given as goal

abbrev pub invariant-loop-x : goal.invariant-loop-x
invariant-loop-x l = Turned (open_row adding l.fn.open.n l.strict.cells.now) l.x l.fn.open l.open
