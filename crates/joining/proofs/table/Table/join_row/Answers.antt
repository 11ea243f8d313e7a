-- A row whose cell to the middle is the mark stays, and else it is taken by that cell. Assumes nothing.
use Rattle.lowering.proofs.Common.{rules, mark-read, read_stored, row_by}
use Rattle.cell.proofs.CellMethods.{stored_summed}
use Rattle.joining.proofs.Taking.{takes_row, takes_mark}
use Rattle.joining.proofs.table.Table.join_row.Goals as goal

pub row_by-requires : goal.row_by-requires
row_by-requires g c = (c.requires.0, c.requires.1, search (stored_summed, read_stored, rules))

pub returns-then-not-is_mark : goal.returns-then-not-is_mark
unfolding row_by
returns-then-not-is_mark g c = takes_row _ _ c.get-a.ensures c.row_by.ensures

pub returns-else-not-is_mark : goal.returns-else-not-is_mark
returns-else-not-is_mark g c = takes_mark _ _ c.get-a.ensures (search (mark-read, rules))
