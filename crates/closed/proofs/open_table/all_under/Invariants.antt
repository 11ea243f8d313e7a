-- `open_table::all_under`: every row passed is under the strict one. Assumes nothing.
use Rattle.closed.proofs.Common.{ℕ, ◌<◌, table_of, version1}
use Rattle.closed.specs.Parts.{RowUnder}
use Rattle.closed.proofs.open_table.all_under.Given as goal

abbrev pub invariant-loop-x : goal.invariant-loop-x
invariant-loop-x l = (x : ℕ) → x < l.x → RowUnder l.strict.n (table_of version1 l.strict.n l.strict.cells.now) (table_of version1 l.open.n l.open.cells.now) x
