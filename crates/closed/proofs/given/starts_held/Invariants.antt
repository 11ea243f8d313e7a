-- `given::starts_held`: every start edge passed holds. Assumes nothing.
use Rattle.closed.proofs.Common.{table_of, version1}
use Rattle.closed.specs.Parts.{StartsHeld}
use Rattle.closed.proofs.given.starts_held.Given as goal

abbrev pub invariant-loop-x : goal.invariant-loop-x
invariant-loop-x l = StartsHeld l.x (table_of version1 l.t.n l.t.cells.now)
