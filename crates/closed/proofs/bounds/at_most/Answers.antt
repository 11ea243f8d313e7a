-- `bounds::at_most` meets its contract. Assumes nothing.
use Rattle.closed.proofs.Common.{read_cell}
use Rattle.closed.proofs.bounds.at_most.Goals as goal

pub returns : goal.returns
returns g c = rw (← read_cell _ _ _ _ _ _ c.get.ensures) c.under.ensures
