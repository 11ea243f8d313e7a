-- `within::row_within` meets its contract: a turn for each cell of the row. Assumes nothing.
use Rattle.closed.proofs.Common.{Within, below_more, decides_same, read_here, refuted, version1}
use Rattle.closed.proofs.within.row_within.Goals as goal

pub returns-then-not-in_reach : goal.returns-then-not-in_reach
returns-then-not-in_reach c =
    refuted (decides_same (Within version1.reach) (read_here c.get.type_inv _ _ _ _ c.get.ensures) c.in_reach.ensures) c.if-not-in_reach.true
    (λ h. h _ c.loop-y-test.true)

pub loop-y-preserved : goal.loop-y-preserved
loop-y-preserved c =
    below_more _ _ c.loop-y.invariant
    ((decides_same (Within version1.reach) (read_here c.get.type_inv _ _ _ _ c.get.ensures) c.in_reach.ensures).holds c.if-not-in_reach.false)
