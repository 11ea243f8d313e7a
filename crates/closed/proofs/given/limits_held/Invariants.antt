-- `given::limits_held`: every limit passed holds. Assumes nothing.
use Rattle.closed.proofs.Common.{limit_at, table_of, version1}
use Rattle.closed.specs.Parts.{LimitsHeld}
use Rattle.closed.proofs.given.limits_held.Given as goal

abbrev pub invariant-loop-i : goal.invariant-loop-i
invariant-loop-i l = LimitsHeld (limit_at l.plan.file.now) l.i (table_of version1 l.t.n l.t.cells.now)
