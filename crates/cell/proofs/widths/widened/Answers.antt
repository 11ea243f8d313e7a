-- The mark becomes the mark, and a number keeps its value. Assumes nothing.
use Rattle.cell.proofs.Common.{sym, w64, signed, back, version1, adding, is_mark_lem, no_mark, cast_cell}
use Rattle.cell.proofs.widths.widened.Goals as goal

pub returns-then-is_mark : goal.returns-then-is_mark
unfolding adding
returns-then-is_mark c = sym (is_mark_lem (rw (back c.ranges.c) at c.is_mark.ensures) c.if-is_mark.true)

pub returns : goal.returns
unfolding adding
returns c =
    let h = c.ranges.c in
    let number = no_mark version1.mark c.args.c (rw (back h) at c.is_mark.ensures) c.if-is_mark.false in
    cast_cell {v = w64} adding.mark h (omega (signed, h.sfits)) number (omega (signed, h.sfits))
