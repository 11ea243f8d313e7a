-- Every diagonal cell passed is at least 0. Assumes nothing.
use Rattle.lowering.proofs.Common.{NotNegative, Passed}
use Rattle.joining.proofs.view.View.none_negative.Given as goal

abbrev pub invariant-loop-x : goal.invariant-loop-x
invariant-loop-x g l = let w = g.W.Word in Passed l.self.n (NotNegative w.ranges l.self.n (w.values l.self.cells.now)) l.x
