-- A turn for each point. Assumes nothing.
use Rattle.lowering.proofs.Common.{arith, upper_all}
use Rattle.joining.proofs.Taking.{turned_all}
use Rattle.wide.proofs.uppers.upper_all.Goals as goal

pub returns : goal.returns
unfolding upper_all
returns c = turned_all c.args.t.now.n c.loop-x.invariant (omega arith)
