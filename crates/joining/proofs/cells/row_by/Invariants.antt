-- A turn for each cell of the row passed. Assumes nothing.
use Rattle.lowering.proofs.Common.{join_cell, Turns}
use Rattle.rules.specs.Cells.{cell_of}
use Rattle.joining.proofs.cells.row_by.Given as goal

abbrev pub invariant-loop-z : goal.invariant-loop-z
invariant-loop-z g l =
    let w = g.W.Word in
    Turns w.ranges l.n l.n (join_cell w.ranges l.n l.y l.x (cell_of w.ranges.mark (w.value l.a))) l.z (w.values l.initial.t) (w.values l.t)
