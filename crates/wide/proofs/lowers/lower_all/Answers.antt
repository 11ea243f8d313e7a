-- A turn for each link. Assumes nothing.
use Rattle.lowering.proofs.Common.{arith, lower_all, sym, ◌∙◌}
use Rattle.joining.proofs.Taking.{turned_all}
use Rattle.wide.proofs.LinksThere.{link_there}
use Rattle.wide.proofs.lowers.lower_all.Goals as goal

pub lower_link-requires : goal.lower_link-requires
lower_link-requires c =
    let here = c.requires ∙ sym c.loop-i.invariant.same_size in
    (here, link_there c.args.plan here c.loop-i-test.true c.link.ensures)

pub returns : goal.returns
unfolding lower_all
returns c = turned_all c.args.plan.k c.loop-i.invariant (omega arith)
