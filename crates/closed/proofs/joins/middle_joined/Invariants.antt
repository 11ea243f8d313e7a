-- `joins::middle_joined`: every row passed is joined by the middle. Assumes nothing.
use Rattle.closed.proofs.Common.{ℕ, ◌<◌, table_of, version1}
use Rattle.closed.specs.Parts.{RowJoined}
use Rattle.closed.proofs.joins.middle_joined.Given as goal

abbrev pub invariant-loop-x : goal.invariant-loop-x
invariant-loop-x l = (x : ℕ) → x < l.x → RowJoined l.t.n (table_of version1 l.t.n l.t.cells.now) l.y x
