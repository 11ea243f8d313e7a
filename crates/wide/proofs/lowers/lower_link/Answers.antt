-- A turn for each second link. Assumes nothing.
use Rattle.lowering.proofs.Common.{arith, lower_link, sym, ◌∙◌}
use Rattle.joining.proofs.Taking.{turned_all}
use Rattle.wide.proofs.LinksThere.{link_there}
use Rattle.wide.proofs.lowers.lower_link.Goals as goal

pub lower_pair-requires : goal.lower_pair-requires
lower_pair-requires c =
    let same = c.loop-j.invariant.same_size in
    (rw same c.requires.1, link_there c.args.plan (c.requires.0 ∙ sym same) c.loop-j-test.true c.link.ensures)

pub returns : goal.returns
unfolding lower_link
returns c = turned_all c.args.plan.k c.loop-j.invariant (omega arith)
