-- A turn for each link. Assumes nothing.
use Rattle.lowering.proofs.Common.{arith, case_all, sym, ◌∙◌}
use Rattle.joining.proofs.Taking.{turned_all}
use Rattle.wide.proofs.LinksThere.{link_there}
use Rattle.wide.proofs.opening.case_all.Goals as goal

pub case_link-requires : goal.case_link-requires
case_link-requires c =
    link_there c.args.plan (c.requires ∙ sym c.loop-i.invariant.same_size) c.loop-i-test.true c.link.ensures

pub returns : goal.returns
unfolding case_all
returns c = turned_all c.args.plan.k c.loop-i.invariant (omega arith)
