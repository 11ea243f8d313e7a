-- `given::limits_held` meets its contract: a turn for each limit. Assumes nothing.
use Rattle.closed.proofs.Common.{limit_there}
use Rattle.closed.proofs.given.limits_held.Goals as goal

pub limit_held-requires : goal.limit_held-requires
limit_held-requires c = limit_there c.limit.ensures c.loop-i-test.true c.requires c.args.plan.ready
