-- `open_table::case_held` meets its contract. Assumes nothing.
use Rattle.closed.proofs.Common.{arith, span_here}
use Rattle.closed.proofs.open_table.case_held.Goals as goal

pub returns : goal.returns
returns c = rw (← span_here c.of.type_inv c.of.ensures (omega (arith, c.requires.order, c.requires.most))) c.at_most.ensures
