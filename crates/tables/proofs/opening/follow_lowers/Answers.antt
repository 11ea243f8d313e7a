-- A turn for each second link. Assumes nothing.
use Rattle.lowering.proofs.Common.{◌∙◌, sym, arith, link_read}
use Rattle.lowering.specs.Spread.{follow_lowers}
use Rattle.joining.proofs.Taking.{turned_all}
use Rattle.tables.proofs.opening.follow_lowers.Goals as goal

pub follow_lower-requires : goal.follow_lower-requires
follow_lower-requires c =
    let same = c.loop-j.invariant.same_size in
    let second = link_read c.args.plan.ready c.loop-j.j c.loop-j-test.true c.link.ensures in
    (c.requires.1 ∙ sym same, rw same c.requires.2, rw (same, ← c.requires.0) second)

pub returns : goal.returns
unfolding follow_lowers
returns c = turned_all c.args.plan.k c.loop-j.invariant (omega arith)
