-- `given::limit_held` meets its contract. Assumes nothing.
use Rattle.closed.proofs.Common.{weight_cell}
use Rattle.closed.proofs.given.limit_held.Goals as goal

pub returns : goal.returns
returns c = rw (← weight_cell c.requires) c.at_most.ensures
