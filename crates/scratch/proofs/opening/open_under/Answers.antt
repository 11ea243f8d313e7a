-- A turn for each row. Assumes nothing.
use Rattle.lowering.proofs.Common.{arith}
use Rattle.lowering.specs.Sweep.{open_all}
use Rattle.joining.proofs.Taking.{turned_all}
use Rattle.scratch.proofs.opening.open_under.Goals as goal

pub returns : goal.returns
unfolding open_all
returns c = turned_all c.args.open.now.n c.loop-x.invariant (omega arith)
