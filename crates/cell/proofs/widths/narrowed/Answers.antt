-- The mark becomes the mark, and a number of the reach keeps its value. Assumes nothing.
use Rattle.cell.proofs.Common.{◌≡◌, sym, w32, signed, back, version1, adding, num, cell64, is_mark_lem, no_mark, cast_cell}
use Rattle.rules.specs.Cells.{Within}
use Rattle.cell.proofs.widths.narrowed.Goals as goal

cell : (c : goal.Else-is_mark) → cell64 c.args.c ≡ num c.args.c
cell c = no_mark adding.mark c.args.c (rw (back c.ranges.c) at c.is_mark.ensures) c.if-is_mark.false

range : (c : goal.Else-is_mark) → Within version1.reach (num c.args.c)
range c = rw (cell c) at c.requires

pub returns-then-is_mark : goal.returns-then-is_mark
unfolding version1
returns-then-is_mark c = sym (is_mark_lem (rw (back c.ranges.c) at c.is_mark.ensures) c.if-is_mark.true)

pub overflow_cast-result : goal.overflow_cast-result
unfolding version1
overflow_cast-result c = let r = range c in rw (back c.ranges.c) (omega signed)

pub returns : goal.returns
unfolding version1
returns c = let r = range c in cast_cell {v = w32} version1.mark c.ranges.c (omega signed) (cell c) (omega signed)
