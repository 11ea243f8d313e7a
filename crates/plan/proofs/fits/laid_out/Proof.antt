-- `fits::laid_out` meets its contract: its sums fit for any counts, and its tests are the definition's.
-- Assumes nothing.
use Rattle.plan.proofs.Common.{refl, rules}
use Rattle.plan.proofs.fits.laid_out.Statement.{statement}
use Rattle.plan.proofs.fits.laid_out.Tie as tie

pub laid_out_spec : {M : Type 1} → statement M
laid_out_spec =
    tie.close
    (tie.spec (λ c. search rules) (λ c. search rules) (λ c. search rules) (λ c. search rules) (λ c. search rules)
    (λ c. search rules) (λ c. search rules) (λ c. refl))
