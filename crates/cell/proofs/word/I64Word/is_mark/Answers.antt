-- The test of the bits for the mark is the test of the cell. Assumes nothing.
use Rattle.cell.proofs.Common.{mark_flag, room64, adding}
use Rattle.cell.proofs.word.I64Word.is_mark.Goals as goal

pub returns : goal.returns
unfolding adding
returns c = mark_flag room64 c.args.self c.ranges.self
