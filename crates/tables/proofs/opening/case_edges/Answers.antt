-- A turn for each link. Assumes nothing.
use Rattle.lowering.proofs.Common.{arith, link_read}
use Rattle.lowering.specs.Spread.{case_edges}
use Rattle.joining.proofs.Taking.{turned_all}
use Rattle.tables.proofs.opening.case_edges.Goals as goal

pub case_edge-requires : goal.case_edge-requires
case_edge-requires c = rw (c.loop-i.invariant.same_size, ← c.requires) (link_read c.args.plan.ready c.loop-i.i c.loop-i-test.true c.link.ensures)

pub returns : goal.returns
unfolding case_edges
returns c = turned_all c.args.plan.k c.loop-i.invariant (omega arith)
