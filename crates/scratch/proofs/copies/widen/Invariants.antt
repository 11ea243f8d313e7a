-- Each cell passed is the one of the table. Assumes nothing.
use Rattle.scratch.specs.Copies.{SameCells}
use Rattle.scratch.proofs.copies.widen.Given as goal

abbrev pub invariant-loop-i : goal.invariant-loop-i
invariant-loop-i l = SameCells l.i l.t l.table
