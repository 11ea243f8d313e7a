-- `fits::counts_fit` meets its contract: the code's numbers are those of version 1.
-- Assumes nothing.
use Rattle.plan.proofs.Common.{refl, version1}
use Rattle.plan.proofs.fits.counts_fit.Statement.{statement}
use Rattle.plan.proofs.fits.counts_fit.Tie as tie

pub counts_fit_spec : {M : Type 1} → statement M
unfolding version1
counts_fit_spec = tie.close (tie.spec (λ c. refl))
