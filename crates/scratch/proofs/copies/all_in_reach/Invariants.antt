-- Every cell passed is in reach. Assumes nothing.
use Rattle.lowering.proofs.Common.{version1, adding, CellWithin, Passed}
use Rattle.scratch.proofs.copies.all_in_reach.Given as goal

abbrev pub invariant-loop-c : goal.invariant-loop-c
invariant-loop-c l = Passed l.count (CellWithin version1.reach adding.mark l.t) l.c-index
