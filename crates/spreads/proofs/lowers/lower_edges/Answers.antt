-- A turn for each second link. Assumes nothing.
use Rattle.lowering.proofs.Common.{arith, lower_edges, link_read}
use Rattle.joining.proofs.Taking.{turned_all}
use Rattle.spreads.proofs.lowers.lower_edges.Goals as goal

pub lower_edge-requires : goal.lower_edge-requires
lower_edge-requires c =
    let same = c.loop-j.invariant.same_size in
    let second = link_read c.args.plan.ready c.loop-j.j c.loop-j-test.true c.link.ensures in
    (rw same c.requires.1, rw (same, ← c.requires.0) second)

pub returns : goal.returns
unfolding lower_edges
returns c = turned_all c.args.plan.k c.loop-j.invariant (omega arith)
