-- A turn for each point. Assumes nothing.
use Rattle.lowering.proofs.Common.{arith, version1, num, pos, lower_cell, start_all}
use Rattle.joining.proofs.Taking.{turned_more, turned_all}
use Rattle.first.proofs.starting.start_all.Goals as goal

pub loop-x-preserved : goal.loop-x-preserved
unfolding version1
loop-x-preserved c =
    turned_more (λ n x. lower_cell version1 n x 0 (num (pos 0))) c.loop-x.invariant (rw c.of.ensures at c.lower_cell.ensures)

pub returns : goal.returns
unfolding start_all
returns c = turned_all c.args.t.now.n c.loop-x.invariant (omega arith)
