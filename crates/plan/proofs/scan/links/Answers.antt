-- A refused link ends the loop, and past any other the answer is that to those behind. Assumes nothing.
use Rattle.std.proofs.lemmas.Result.{err_from_is_err_and}
use Rattle.plan.proofs.Common.{arith, version1}
use Rattle.plan.proofs.RecordTurns.{links_next, links_stop}
use Rattle.plan.proofs.scan.links.Goals as goal

pub returns-in_err-link_answer : goal.returns-in_err-link_answer
returns-in_err-link_answer g c =
    let p = err_from_is_err_and c.from_residual.result c.from_residual.ensures.1 in
    rw (p.1, p.2)
    (links_stop version1 c.args.n c.args.m (g.R.PlanRecords.links c.args.from.now) c.loop-i.i c.args.k c.loop-i.invariant (omega arith) c.link-link.ensures c.fresh-new.ensures c.link_answer.ensures c.in_err-link_answer.was)

pub loop-i-preserved : goal.loop-i-preserved
loop-i-preserved g c = search (links_next, c.in_ok-link_answer.was, arith)
