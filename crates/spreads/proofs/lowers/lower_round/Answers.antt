-- A turn for each link. Assumes nothing.
use Rattle.lowering.proofs.Common.{◌∙◌, sym, arith, link_read}
use Rattle.lowering.specs.Spread.{lower_round}
use Rattle.joining.proofs.Taking.{turned_all}
use Rattle.spreads.proofs.lowers.lower_round.Goals as goal

pub lower_edges-requires : goal.lower_edges-requires
lower_edges-requires c =
    let same = c.loop-i.invariant.same_size in
    (c.requires ∙ sym same, rw (same, ← c.requires) (link_read c.args.plan.ready c.loop-i.i c.loop-i-test.true c.link.ensures))

pub returns : goal.returns
unfolding lower_round
returns c = turned_all c.args.plan.k c.loop-i.invariant (omega arith)
