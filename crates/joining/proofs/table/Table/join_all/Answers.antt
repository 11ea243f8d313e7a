-- A turn for each middle. Assumes nothing.
use Rattle.lowering.proofs.Common.{arith, join_all}
use Rattle.joining.proofs.Taking.{turned_all}
use Rattle.joining.proofs.table.Table.join_all.Goals as goal

pub returns : goal.returns
unfolding join_all
returns g c = turned_all c.args.self.now.n c.loop-y.invariant (omega arith)
