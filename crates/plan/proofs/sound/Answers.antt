-- The answer to header and limits stands, or the links' counts. Assumes nothing.
use Rattle.std.proofs.lemmas.Result.{err_from_is_err_and}
use Rattle.plan.proofs.FirstRefusal.{file_stop, past_front_limits, past_front_links, file_next}
use Rattle.plan.proofs.sound.Goals as goal

pub returns-in_err-front : goal.returns-in_err-front
returns-in_err-front c =
    let p = err_from_is_err_and c.from_residual.result c.from_residual.ensures.1 in
    rw (p.1, p.2) (file_stop c.args.file.now c.front.ensures c.in_err-front.was)

pub links-requires-clause-few : goal.links-requires-clause-few
links-requires-clause-few c = (search (past_front_limits, c.in_ok-front.was), search (past_front_links, c.in_ok-front.was))

pub returns : goal.returns
returns c = search (file_next, c.in_ok-front.was)
