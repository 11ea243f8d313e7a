-- A turn for each link. Assumes nothing.
use Rattle.lowering.proofs.Common.{arith, upper_round, link_read}
use Rattle.joining.proofs.Taking.{turned_all}
use Rattle.spreads.proofs.uppers.upper_round.Goals as goal

pub upper_edges-requires : goal.upper_edges-requires
upper_edges-requires c = rw (c.loop-i.invariant.same_size, ← c.requires) (link_read c.args.plan.ready c.loop-i.i c.loop-i-test.true c.link.ensures)

pub returns : goal.returns
unfolding upper_round
returns c = turned_all c.args.plan.k c.loop-i.invariant (omega arith)
