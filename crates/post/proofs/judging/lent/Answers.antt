-- The file's own code, then room for two tables. Assumes nothing.
use mathlib.Core.Logic.{inl, inr}
use native.Mathlib.Omega.{arith}
use Rattle.std.proofs.lemmas.Result.{err_from_is_err_and}
use Rattle.whole.proofs.Place.{square_le}
use Rattle.lowering.proofs.Laws.LinksAsRead.{few}
use Rattle.reader.proofs.Plans.{ready_of}
use Rattle.post.proofs.JudgeAnswers.{lent_refused, lent_short}
use Rattle.post.proofs.judging.lent.Goals as goal

pub returns-in_err-plan : goal.returns-in_err-plan
returns-in_err-plan c =
    let p = err_from_is_err_and c.from_residual.result c.from_residual.ensures.1 in
    rw (p.1, p.2) (lent_refused c.args.strict c.args.«open» c.in_err-plan.ensures)

pub overflow_mul-cells : goal.overflow_mul-cells
overflow_mul-cells c = omega (arith, square_le (few c.in_ok-plan.plan.ready))

pub returns-then-strict-cells : goal.returns-then-strict-cells
returns-then-strict-cells c =
    elim c.then-strict-cells.either [
      | inl l ↦ lent_short (ready_of c.in_ok-plan.plan c.in_ok-plan.ensures) (inl l)
      | inr l ↦ lent_short (ready_of c.in_ok-plan.plan c.in_ok-plan.ensures) (inr l.1)
    ]

pub returns : goal.returns
returns c = (c.in_ok-plan.ensures, c.if-strict-cells.false, c.if-open-cells.false)
