-- The line where its weight is below the strict cell of its pair. Assumes nothing.
use Rattle.offers.proofs.Common.{rules, kept_adds, kept_notable}
use Rattle.offers.proofs.bests.kept.Goals as goal

pub returns : goal.returns
returns c =
    let a = c.args in
    rw c.then_some.ensures (
      kept_adds a.work.n a.work.cells.now a.d c.weight-best.result c.requires c.weight-best.ensures c.below.result (search rules),
      kept_notable a.work.n a.work.cells.now a.d c.weight-best.result c.requires c.weight-best.ensures c.below.result,
    )
