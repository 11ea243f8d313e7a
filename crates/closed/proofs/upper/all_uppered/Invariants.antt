-- `upper::all_uppered`: every link passed is uppered. Assumes nothing.
use Rattle.closed.proofs.Common.{link_at, table_of, version1}
use Rattle.closed.specs.Parts.{AllUppered}
use Rattle.closed.proofs.upper.all_uppered.Given as goal

abbrev pub invariant-loop-i : goal.invariant-loop-i
invariant-loop-i l = AllUppered l.t.n (link_at l.plan.file.now l.plan.m) l.i (table_of version1 l.t.n l.t.cells.now)
