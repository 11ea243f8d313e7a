-- `joins::all_joined`: every row is joined by every middle passed. Assumes nothing.
use Rattle.closed.proofs.Common.{ℕ, ◌<◌, table_of, version1}
use Rattle.closed.specs.Parts.{MiddleJoined}
use Rattle.closed.proofs.joins.all_joined.Given as goal

abbrev pub invariant-loop-y : goal.invariant-loop-y
invariant-loop-y l = (y : ℕ) → y < l.y → MiddleJoined l.t.n (table_of version1 l.t.n l.t.cells.now) y
