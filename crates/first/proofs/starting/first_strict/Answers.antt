-- The mark everywhere, then the diagonal, limits, start edges and links. Assumes nothing.
use Rattle.lowering.proofs.Common.{few}
use Rattle.lowering.specs.Sweep.{first_strict}
use Rattle.first.proofs.starting.first_strict.Goals as goal

pub marked-t-requires : goal.marked-t-requires
marked-t-requires c = (few c.args.plan.ready, c.requires)

pub returns-clause-cells : goal.returns-clause-cells
unfolding first_strict
returns-clause-cells c =
    let k = c.link_all.ensures in
    let s = c.start_all.ensures in
    let l = c.limit_all.ensures in
    let d = c.diagonal_all.ensures in
    let m = c.marked-t.ensures in
    rw (k.cells, s.cells, l.cells, d.cells, m.cells, s.same_size, l.same_size, d.same_size, m.same_size)
