-- A refused limit ends the loop, and past any other the answer is that to those behind. Assumes nothing.
use Rattle.std.proofs.lemmas.Result.{err_from_is_err_and}
use Rattle.plan.proofs.Common.{arith, version1}
use Rattle.plan.proofs.RecordTurns.{limits_next, limits_stop}
use Rattle.plan.proofs.scan.limits.Goals as goal

pub returns-in_err-limit_answer : goal.returns-in_err-limit_answer
returns-in_err-limit_answer g c =
    let p = err_from_is_err_and c.from_residual.result c.from_residual.ensures.1 in
    rw (p.1, p.2)
    (limits_stop version1 c.args.n (g.R.PlanRecords.limits c.args.from.now) c.loop-i.i c.args.m c.loop-i.invariant (omega arith) c.limit.ensures c.limit_answer.ensures c.in_err-limit_answer.was)

pub loop-i-preserved : goal.loop-i-preserved
loop-i-preserved g c = search (limits_next, c.in_ok-limit_answer.was, arith)
