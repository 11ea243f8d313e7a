-- The header's answer stands, or the limits' counts. Assumes nothing.
use Rattle.std.proofs.lemmas.Result.{err_from_is_err_and}
use Rattle.plan.proofs.FirstRefusal.{front_stop, past_head, front_next}
use Rattle.plan.proofs.front.Goals as goal

pub returns-in_err-head_answer : goal.returns-in_err-head_answer
returns-in_err-head_answer c =
    let p = err_from_is_err_and c.from_residual.result c.from_residual.ensures.1 in
    rw (p.1, p.2) (front_stop c.args.file.now c.head-h.ensures c.head_answer.ensures c.in_err-head_answer.was)

pub limits-requires-clause-few : goal.limits-requires-clause-few
limits-requires-clause-few c = search (past_head, c.in_ok-head_answer.was)

pub returns : goal.returns
returns c = search (front_next, c.in_ok-head_answer.was)
