-- `joins::row_joined` meets its contract: nothing is asked of a row with no path to the middle, else a turn for each cell. Assumes nothing.
use Rattle.closed.proofs.Common.{mark-read, read_here, row_at_mark, row_more}
use Rattle.closed.proofs.joins.row_joined.Goals as goal

pub returns-then-is_mark : goal.returns-then-is_mark
returns-then-is_mark c =
    row_at_mark _ _ _ _ (read_here c.get-a.type_inv _ _ _ _ c.get-a.ensures) (mark-read c.is_mark.ensures c.if-is_mark.true)

pub loop-z-preserved : goal.loop-z-preserved
loop-z-preserved c =
    row_more _ _ _ _ _ _ c.loop-z.invariant (read_here c.get-a.type_inv _ _ _ _ c.get-a.ensures) (read_here c.get.type_inv _ _ _ _ c.get.ensures)
    c.add.type_inv c.add.ensures c.at_most-held.ensures
