-- A turn for each limit. Assumes nothing.
use Rattle.lowering.proofs.Common.{arith, limit_all}
use Rattle.lowering.proofs.Laws.FirstAsRead.{limit_read}
use Rattle.joining.proofs.Taking.{turned_all}
use Rattle.first.proofs.starting.limit_all.Goals as goal

pub limit_cell-requires : goal.limit_cell-requires
limit_cell-requires c = rw (c.loop-i.invariant.same_size, ← c.requires) (limit_read c.args.plan.ready c.loop-i.i c.loop-i-test.true c.limit.ensures)

pub returns : goal.returns
unfolding limit_all
returns c = turned_all c.args.plan.m c.loop-i.invariant (omega arith)
