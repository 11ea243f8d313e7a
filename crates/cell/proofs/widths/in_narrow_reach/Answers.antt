-- The ends are those of the paper's reach. Assumes nothing.
use Rattle.cell.proofs.Common.{refl, version1, back}
use Rattle.cell.proofs.widths.in_narrow_reach.Goals as goal

pub returns : goal.returns
unfolding version1
returns c = rw (back c.ranges.c) at (c.between.ensures version1.reach refl refl)
