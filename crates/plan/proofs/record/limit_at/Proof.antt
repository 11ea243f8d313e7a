-- `record::limit_at` meets its contract, field by field; the weight is read back from its bits.
-- Assumes nothing.
use Rattle.plan.proofs.Common.{rules, sfits_of, w32, to_z-of_z, limit_at}
use Rattle.plan.proofs.record.limit_at.Statement.{statement}
use Rattle.plan.proofs.record.limit_at.Tie as tie

pub limit_at_spec : {M : Type 1} → statement M
unfolding limit_at
limit_at_spec =
    tie.close
    (tie.spec (λ c. search rules) (λ c. search rules) (λ c κs. search rules) (λ c. search rules) (λ c κs. search rules)
    (λ c. search rules) (λ c κs. search rules)
    (λ c. cc (to_z-of_z w32 c.signed_at.result (sfits_of c.signed_at.type_inv))))
