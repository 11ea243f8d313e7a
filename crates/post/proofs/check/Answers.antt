-- What comes before the work, or the closed test. Assumes nothing.
use Rattle.std.proofs.lemmas.Result.{err_from_is_err_and}
use Rattle.answers.proofs.CodeZero.{not_done}
use Rattle.reader.proofs.Plans.{ready_of}
use Rattle.post.proofs.CheckAnswers.{lent_checked, are_closed, are_not}
use Rattle.post.proofs.check.Goals as goal

pub returns-in_err-plan : goal.returns-in_err-plan
returns-in_err-plan c =
    let p = err_from_is_err_and c.from_residual.result c.from_residual.ensures.1 in
    rw (p.1, p.2) (lent_checked _ _ c.in_err-plan.ensures not_done)

pub returns-then-not-closed : goal.returns-then-not-closed
returns-then-not-closed c =
    are_not (ready_of c.in_ok-plan.plan c.in_ok-plan.ensures.0) _ _ c.in_ok-plan.ensures.1 c.in_ok-plan.ensures.2 _ (rw c.in_ok-plan.ensures.0 at c.closed.ensures) c.if-not-closed.true

pub returns : goal.returns
returns c =
    are_closed (ready_of c.in_ok-plan.plan c.in_ok-plan.ensures.0) _ _ c.in_ok-plan.ensures.1 c.in_ok-plan.ensures.2 _ (rw c.in_ok-plan.ensures.0 at c.closed.ensures) c.if-not-closed.false
