-- The rows before that of b, its own, and those after it. Assumes nothing.
use Rattle.lowering.proofs.Common.{arith, back}
use Rattle.lowering.specs.Spread.{spread_all}
use Rattle.joining.proofs.Taking.{turned_all}
use Rattle.spreads.proofs.spreading.spread_all.Goals as goal

pub returns : goal.returns
unfolding spread_all
returns c = turned_all c.args.t.now.n (rw (back c.ranges.w) at c.below.invariant) (omega arith)
