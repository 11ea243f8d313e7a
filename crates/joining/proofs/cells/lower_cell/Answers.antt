-- A cell read, the new one stored if it is smaller, and written. Assumes nothing.
use Rattle.lowering.proofs.Common.{rules, lowering_is}
use Rattle.joining.proofs.cells.lower_cell.Goals as goal

pub returns : goal.returns
returns g c = search (lowering_is, rules)
