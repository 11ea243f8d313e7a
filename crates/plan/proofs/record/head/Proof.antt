-- `record::head` meets its contract, field by field.
-- Assumes nothing.
use Rattle.plan.proofs.Common.{rules}
use Rattle.plan.specs.Layout.{head_of}
use Rattle.plan.proofs.record.head.Statement.{statement}
use Rattle.plan.proofs.record.head.Tie as tie

pub head_spec : {M : Type 1} → statement M
unfolding head_of
head_spec =
    tie.close
    (tie.spec (λ c κs. search rules) (λ c κs. search rules) (λ c κs. search rules) (λ c κs. search rules)
    (λ c κs. search rules) (λ c κs. search rules) (λ c. cc))
