-- A turn for each point. Assumes nothing.
use Rattle.lowering.proofs.Common.{arith}
use Rattle.lowering.specs.Spread.{follow_uppers}
use Rattle.joining.proofs.Taking.{turned_all}
use Rattle.tables.proofs.opening.follow_uppers.Goals as goal

pub returns : goal.returns
unfolding follow_uppers
returns c = turned_all c.args.«open».now.n c.loop-x.invariant (omega arith)
