-- A turn for each cell of the row passed. Assumes nothing.
use Rattle.lowering.proofs.Common.{adding}
use Rattle.lowering.specs.Sweep.{open_cell}
use Rattle.joining.proofs.Taking.{Turned}
use Rattle.scratch.proofs.opening.open_row.Given as goal

abbrev pub invariant-loop-y : goal.invariant-loop-y
invariant-loop-y l = Turned (open_cell adding l.fn.open.n l.strict.cells.now l.x) l.y l.fn.open l.open
