-- `within::cell_zero` meets its contract: neither of the cell and 0 exceeds the other. Assumes nothing.
use Rattle.closed.proofs.Common.{not_same, read_here, same, pos, version1}
use Rattle.closed.proofs.within.cell_zero.Goals as goal

pub returns-then-under : goal.returns-then-under
unfolding version1
returns-then-under c =
    rw (← read_here c.get-c.type_inv _ _ _ _ c.get-c.ensures) (same _ (pos 0) c.under.ensures c.if-under.true c.under-then-under.ensures)

pub returns-else-under : goal.returns-else-under
unfolding version1
returns-else-under c = rw (← read_here c.get-c.type_inv _ _ _ _ c.get-c.ensures) (not_same _ (pos 0) c.under.ensures c.if-under.false)
