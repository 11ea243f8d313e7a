-- The rows before the middle, its own, and those after it. Assumes nothing.
use Rattle.lowering.proofs.Common.{arith, join_middle}
use Rattle.joining.proofs.Taking.{turned_all}
use Rattle.joining.proofs.table.Table.join_middle.Goals as goal

pub returns : goal.returns
unfolding join_middle
returns g c = turned_all c.args.self.now.n c.below.invariant (omega arith)
