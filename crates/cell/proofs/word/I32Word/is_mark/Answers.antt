-- The test of the bits for the mark is the test of the cell. Assumes nothing.
use Rattle.cell.proofs.Common.{mark_flag, room32, version1}
use Rattle.cell.proofs.word.I32Word.is_mark.Goals as goal

pub returns : goal.returns
unfolding version1
returns c = mark_flag room32 c.args.self c.ranges.self
