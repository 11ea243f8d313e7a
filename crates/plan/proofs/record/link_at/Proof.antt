-- `record::link_at` meets its contract, field by field.
-- Assumes nothing.
use Rattle.plan.proofs.Common.{rules, link_at}
use Rattle.plan.proofs.record.link_at.Statement.{statement}
use Rattle.plan.proofs.record.link_at.Tie as tie

pub link_at_spec : {M : Type 1} → statement M
unfolding link_at
link_at_spec =
    tie.close
    (tie.spec (λ c. search rules) (λ c. search rules) (λ c. search rules) (λ c. search rules) (λ c κs. search rules)
    (λ c. search rules) (λ c κs. search rules) (λ c. search rules) (λ c κs. search rules) (λ c. search rules)
    (λ c κs. search rules) (λ c. cc))
