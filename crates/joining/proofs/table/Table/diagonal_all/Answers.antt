-- A turn for each point. Assumes nothing.
use Rattle.lowering.proofs.Common.{arith, lower_cell, num, pos, diagonal_all}
use Rattle.cell.proofs.CellMethods.{weight_is}
use Rattle.joining.proofs.Taking.{turned_more, turned_all}
use Rattle.joining.proofs.table.Table.diagonal_all.Goals as goal

pub loop-x-preserved : goal.loop-x-preserved
loop-x-preserved g c =
    turned_more (λ n x. lower_cell g.W.Word.ranges n x x (num (pos 0))) c.loop-x.invariant
    (rw (weight_is g.met.W.Word.room (omega arith) c.of.ensures) at c.lower_cell.ensures)

pub returns : goal.returns
unfolding diagonal_all
returns g c = turned_all c.args.self.now.n c.loop-x.invariant (omega arith)
