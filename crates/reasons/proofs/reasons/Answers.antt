-- The file's answer, a work room that is too short, or the rest. Assumes nothing.
use Rattle.std.proofs.Common.{arith}
use Rattle.std.proofs.lemmas.Result.{err_from_is_err_and}
use Rattle.whole.proofs.Place.{square_le}
use Rattle.lowering.proofs.Laws.LinksAsRead.{few}
use Rattle.reader.proofs.Plans.{ready_of}
use Rattle.reasons.proofs.CallLaws.{answer_file, answer_short}
use Rattle.reasons.proofs.reasons.Goals as goal

pub returns-in_err-plan : goal.returns-in_err-plan
returns-in_err-plan c =
    let p = err_from_is_err_and c.from_residual.result c.from_residual.ensures.1 in
    rw (p.1, p.2) (answer_file c.args.file.now c.in_err-plan.ensures)

pub overflow_mul-plan : goal.overflow_mul-plan
overflow_mul-plan c = omega (arith, square_le (few c.in_ok-plan.plan.ready))

pub overflow_mul-plan-2 : goal.overflow_mul-plan-2
overflow_mul-plan-2 c = omega (arith, square_le (few c.in_ok-plan.plan.ready))

pub returns-then-work-plan : goal.returns-then-work-plan
returns-then-work-plan c = answer_short (ready_of c.in_ok-plan.plan c.in_ok-plan.ensures) c.if-work-plan.true
