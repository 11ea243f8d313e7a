-- The order of the numbers is the order of the cells. Assumes nothing.
use Rattle.cell.proofs.Common.{back, below_flag, room32}
use Rattle.cell.proofs.word.I32Word.below.Goals as goal

pub returns : goal.returns
returns c = rw (back c.ranges.self, back c.ranges.o) (below_flag room32 c.args.self c.args.o c.ranges.self c.ranges.o)
