-- `upper::link_uppered`: every point passed is uppered. Assumes nothing.
use Rattle.closed.proofs.Common.{link_of, table_of, version1}
use Rattle.closed.specs.Parts.{LinkUppered}
use Rattle.closed.proofs.upper.link_uppered.Given as goal

abbrev pub invariant-loop-x : goal.invariant-loop-x
invariant-loop-x l = LinkUppered l.x (table_of version1 l.t.n l.t.cells.now) (link_of l.link)
