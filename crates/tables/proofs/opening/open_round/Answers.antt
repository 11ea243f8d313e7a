-- A turn for each link. Assumes nothing.
use Rattle.lowering.proofs.Common.{◌∙◌, sym, arith, link_read}
use Rattle.lowering.specs.Spread.{open_round}
use Rattle.joining.proofs.Taking.{turned_all}
use Rattle.tables.proofs.opening.open_round.Goals as goal

pub follow_link-requires : goal.follow_link-requires
follow_link-requires c =
    let same = c.loop-i.invariant.same_size in
    let link = link_read c.args.plan.ready c.loop-i.i c.loop-i-test.true c.link.ensures in
    (c.requires.0 ∙ sym same, c.requires.1 ∙ sym same, rw (same, ← c.requires.0) link)

pub returns : goal.returns
unfolding open_round
returns c = turned_all c.args.plan.k c.loop-i.invariant (omega arith)
