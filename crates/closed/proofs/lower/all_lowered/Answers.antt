-- `lower::all_lowered` meets its contract: a turn for each link. Assumes nothing.
use Rattle.closed.proofs.Common.{below_more}
use Rattle.closed.proofs.lower.all_lowered.Goals as goal

pub loop-i-preserved : goal.loop-i-preserved
loop-i-preserved c = below_more _ _ c.loop-i.invariant (rw (← c.link.ensures) (c.link_lowered.ensures.holds c.if-not-link_lowered.false))
