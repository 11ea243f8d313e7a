-- `within::all_within`: every row passed is in range. Assumes nothing.
use Rattle.closed.proofs.Common.{ℕ, ◌<◌, table_of, version1}
use Rattle.closed.specs.Parts.{RowWithin}
use Rattle.closed.proofs.within.all_within.Given as goal

abbrev pub invariant-loop-x : goal.invariant-loop-x
invariant-loop-x l = (x : ℕ) → x < l.x → RowWithin version1.reach l.n (table_of version1 l.n l.cells) x
