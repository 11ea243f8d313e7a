-- `lower::link_lowered` meets its contract: a turn for each other link. Assumes nothing.
use Rattle.closed.proofs.Common.{below_more}
use Rattle.closed.proofs.lower.link_lowered.Goals as goal

pub loop-i-preserved : goal.loop-i-preserved
loop-i-preserved c = below_more _ _ c.loop-i.invariant (rw (← c.link.ensures) (c.pair_lowered.ensures.holds c.if-not-pair_lowered.false))
