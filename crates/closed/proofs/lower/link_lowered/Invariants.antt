-- `lower::link_lowered`: every other link passed is lowered. Assumes nothing.
use Rattle.closed.proofs.Common.{link_at, link_of, table_of, version1}
use Rattle.closed.specs.Parts.{LinkLowered}
use Rattle.closed.proofs.lower.link_lowered.Given as goal

abbrev pub invariant-loop-i : goal.invariant-loop-i
invariant-loop-i l = LinkLowered (link_at l.plan.file.now l.plan.m) l.i (table_of version1 l.t.n l.t.cells.now) (link_of l.link)
