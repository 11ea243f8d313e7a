-- `open_table::row_under` meets its contract: a turn for each cell of the row. Assumes nothing.
use Rattle.closed.proofs.Common.{below_more, read_here, refuted}
use Rattle.closed.proofs.open_table.row_under.Goals as goal

pub returns-then-not-at_most : goal.returns-then-not-at_most
returns-then-not-at_most c =
    let strict = read_here c.get.type_inv c.args.strict.n c.args.x c.loop-y.y c.args.strict.cells.now c.get.ensures in
    refuted c.at_most.ensures c.if-not-at_most.true (λ h. rw strict (h c.loop-y.y c.loop-y-test.true))

pub loop-y-preserved : goal.loop-y-preserved
loop-y-preserved c =
    let strict = read_here c.get.type_inv c.args.strict.n c.args.x c.loop-y.y c.args.strict.cells.now c.get.ensures in
    below_more _ _ c.loop-y.invariant (rw (← strict) (c.at_most.ensures.holds c.if-not-at_most.false))
