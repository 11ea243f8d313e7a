-- As `sound`, with Add's limit between. Assumes nothing.
use Rattle.std.proofs.lemmas.Result.{err_from_is_err_and}
use Rattle.plan.proofs.Common.{w32, to_z-of_z}
use Rattle.plan.proofs.FirstRefusal.{add_stop, past_front_limits, past_front_links, add_own, add_next}
use Rattle.plan.proofs.sound_with.Goals as goal

pub returns-in_err-front : goal.returns-in_err-front
returns-in_err-front c =
    let p = err_from_is_err_and c.from_residual.result c.from_residual.ensures.1 in
    rw (p.1, p.2) (add_stop c.args.file.now c.front.ensures _ c.in_err-front.was)

pub limit_answer-requires : goal.limit_answer-requires
limit_answer-requires c = search (past_front_limits, c.in_ok-front.was)

pub returns-in_err-limit_answer : goal.returns-in_err-limit_answer
returns-in_err-limit_answer c =
    let own = rw (to_z-of_z w32 c.args.w c.ranges.w) at c.limit_answer.ensures in
    let p = err_from_is_err_and c.from_residual-in_err-limit_answer.result c.from_residual-in_err-limit_answer.ensures.1 in
    rw (p.1, p.2) (add_own c.args.file.now c.front.ensures c.in_ok-front.was c.head-h.ensures _ own c.in_err-limit_answer.was)

pub links-requires-clause-few : goal.links-requires-clause-few
links-requires-clause-few c = (search (past_front_limits, c.in_ok-front.was), search (past_front_links, c.in_ok-front.was))

pub returns : goal.returns
returns c =
    let own = rw (to_z-of_z w32 c.args.w c.ranges.w) at c.limit_answer.ensures in
    add_next c.args.file.now c.front.ensures c.in_ok-front.was c.head-h.ensures _ own c.in_ok-limit_answer.was c.links.ensures
