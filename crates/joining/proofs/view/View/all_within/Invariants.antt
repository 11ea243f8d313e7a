-- Every cell passed is within the reach. Assumes nothing.
use Rattle.lowering.proofs.Common.{◌*◌, CellWithin, Passed}
use Rattle.joining.proofs.view.View.all_within.Given as goal

abbrev pub invariant-loop-i : goal.invariant-loop-i
invariant-loop-i g l =
    let w = g.W.Word in
    Passed (l.self.n * l.self.n) (CellWithin w.ranges.reach w.ranges.mark (w.values l.self.cells.now)) l.i
