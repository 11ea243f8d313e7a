-- The sum is that of the cells passed. Assumes nothing.
use Rattle.lowering.proofs.Common.{◌*◌, Summing}
use Rattle.joining.proofs.view.View.height_all.Given as goal

abbrev pub invariant-loop-i : goal.invariant-loop-i
invariant-loop-i g l = let w = g.W.Word in Summing w.ranges (l.self.n * l.self.n) (w.values l.self.cells.now) l.i l.sum
