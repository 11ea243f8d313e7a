-- A turn for each point. Assumes nothing.
use Rattle.lowering.proofs.Common.{arith, upper_edges}
use Rattle.joining.proofs.Taking.{turned_all}
use Rattle.spreads.proofs.uppers.upper_edges.Goals as goal

pub returns : goal.returns
unfolding upper_edges
returns c = turned_all c.args.t.now.n c.loop-x.invariant (omega arith)
