-- A turn for each link. Assumes nothing.
use Rattle.lowering.proofs.Common.{arith, link_all, link_read}
use Rattle.joining.proofs.Taking.{turned_all}
use Rattle.first.proofs.starting.link_all.Goals as goal

pub link_edges-requires : goal.link_edges-requires
link_edges-requires c = rw (c.loop-i.invariant.same_size, ← c.requires) (link_read c.args.plan.ready c.loop-i.i c.loop-i-test.true c.link.ensures)

pub returns : goal.returns
unfolding link_all
returns c = turned_all c.args.plan.k c.loop-i.invariant (omega arith)
