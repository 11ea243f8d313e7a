-- `head_answer` meets its contract: too few bytes, another version, or what n, m and k answer.
-- Assumes nothing.
use Rattle.plan.proofs.Common.{rules}
use Rattle.plan.proofs.FirstRefusal.{few_bytes, bad_version, head_next}
use Rattle.plan.proofs.head_answer.Statement.{statement}
use Rattle.plan.proofs.head_answer.Tie as tie

pub head_answer_spec : {M : Type 1} → statement M
head_answer_spec =
    tie.close
    (tie.spec (λ c. search few_bytes)
    (λ c. search bad_version)
    (λ c κs. search rules) (λ c. search rules) (λ c. search rules) (λ c κs. search rules)
    (λ c. search head_next))
