-- `given::starts_held` meets its contract: a turn for each point. Assumes nothing.
use Rattle.closed.proofs.Common.{below_more, version1}
use Rattle.closed.proofs.given.starts_held.Goals as goal

pub loop-x-preserved : goal.loop-x-preserved
unfolding version1
loop-x-preserved c = below_more _ _ c.loop-x.invariant (c.at_most.ensures.holds c.if-not-at_most.false)
