-- What comes before the work, room for the times, no links, and the work. Assumes nothing.
use native.Mathlib.Omega.{arith}
use Rattle.std.proofs.lemmas.Result.{err_from_is_err_and}
use Rattle.answers.proofs.CodeZero.{not_done}
use Rattle.reader.proofs.Plans.{ready_of}
use Rattle.post.proofs.EarliestAnswers.{lent_timed, times_short, times_links}
use Rattle.post.proofs.timing.earliest.Goals as goal

pub returns-in_err-plan : goal.returns-in_err-plan
returns-in_err-plan c =
    let p = err_from_is_err_and c.from_residual.result c.from_residual.ensures.1 in
    rw (p.1, p.2) (lent_timed _ _ _ c.in_err-plan.ensures not_done)

pub returns-then-times-plan : goal.returns-then-times-plan
returns-then-times-plan c =
    times_short (ready_of c.in_ok-plan.plan c.in_ok-plan.ensures.0) c.in_ok-plan.ensures.1 c.in_ok-plan.ensures.2 c.if-times-plan.true

pub returns-then-plan-ne0 : goal.returns-then-plan-ne0
returns-then-plan-ne0 c =
    times_links (ready_of c.in_ok-plan.plan c.in_ok-plan.ensures.0) c.in_ok-plan.ensures.1 c.in_ok-plan.ensures.2 c.if-times-plan.false c.if-plan-ne0.true

pub timed-requires : goal.timed-requires
timed-requires c = (omega (arith), c.in_ok-plan.ensures.1, c.in_ok-plan.ensures.2, c.if-times-plan.false)

pub returns : goal.returns
returns c = rw c.in_ok-plan.ensures.0 at c.timed.ensures
