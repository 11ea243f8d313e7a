-- `counts_answer` meets its contract: at each `return` the tests that led there say which answer it is.
-- Assumes nothing.
use Rattle.plan.proofs.Common.{rules}
use Rattle.plan.proofs.FirstRefusal.{bad_points, bad_counts, bad_layout, counts_done}
use Rattle.plan.proofs.counts_answer.Statement.{statement}
use Rattle.plan.proofs.counts_answer.Tie as tie

returns_2 : tie.Need-returns-then-not-counts_fit
returns_2 c = search bad_counts

pub counts_answer_spec : {M : Type 1} → statement M
counts_answer_spec =
    tie.close
    (tie.spec (λ c κs. search rules)
    (λ c. search bad_points)
    (λ c κs. search rules)
    returns_2
    (λ c. search bad_layout)
    (λ c. search counts_done))
