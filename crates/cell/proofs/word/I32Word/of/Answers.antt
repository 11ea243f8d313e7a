-- A weight of the ranges fits. Assumes nothing.
use Rattle.cell.proofs.Common.{arith, w32, cast_pos, signed, version1}
use Rattle.cell.proofs.word.I32Word.of.Goals as goal

pub overflow_cast-result : goal.overflow_cast-result
unfolding version1
overflow_cast-result c = omega (signed, c.requires)

pub returns : goal.returns
unfolding version1
returns c = cast_pos w32 c.args.n (omega (arith, c.requires))
