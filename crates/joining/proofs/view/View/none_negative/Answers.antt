-- Every diagonal cell passed is at least 0. Assumes nothing.
use Rattle.lowering.proofs.Common.{arith, negative_failed, negative_more}
use Rattle.cell.proofs.CellMethods.{weight_is}
use Rattle.joining.proofs.view.View.none_negative.Goals as goal

pub returns-then-below : goal.returns-then-below
returns-then-below g c =
    let w = g.W.Word in
    let nought = weight_is g.met.W.Word.room (omega arith) c.of.ensures in
    negative_failed w.ranges (w.values c.args.self.cells.now) c.loop-x-test.true c.get.ensures nought c.below.ensures c.if-below.true

pub loop-x-preserved : goal.loop-x-preserved
loop-x-preserved g c =
    let w = g.W.Word in
    let nought = weight_is g.met.W.Word.room (omega arith) c.of.ensures in
    negative_more w.ranges (w.values c.args.self.cells.now) c.loop-x-test.true c.get.ensures nought c.below.ensures c.loop-x.invariant c.if-below.false
