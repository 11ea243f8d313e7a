-- A turn for each link. Assumes nothing.
use Rattle.lowering.proofs.Common.{arith, upper_point, sym, ◌∙◌}
use Rattle.joining.proofs.Taking.{turned_all}
use Rattle.wide.proofs.LinksThere.{link_there}
use Rattle.wide.proofs.uppers.upper_point.Goals as goal

pub upper_cell-requires : goal.upper_cell-requires
upper_cell-requires c =
    let same = c.loop-i.invariant.same_size in
    (rw same c.requires.0, link_there c.args.plan (c.requires.1 ∙ sym same) c.loop-i-test.true c.link.ensures)

pub returns : goal.returns
unfolding upper_point
returns c = turned_all c.args.plan.k c.loop-i.invariant (omega arith)
