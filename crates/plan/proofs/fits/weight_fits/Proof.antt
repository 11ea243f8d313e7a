-- `fits::weight_fits` meets its contract: the code's numbers are those of version 1, and a weight is read back from its bits.
-- Assumes nothing.
use Rattle.plan.proofs.Common.{w32, to_z-of_z, version1}
use Rattle.plan.proofs.fits.weight_fits.Statement.{statement}
use Rattle.plan.proofs.fits.weight_fits.Tie as tie

returns : tie.Need-returns
unfolding version1
returns c = rw (to_z-of_z w32 c.args.w c.ranges.w)

pub weight_fits_spec : {M : Type 1} → statement M
weight_fits_spec = tie.close (tie.spec returns)
