-- `open_table::cases_held`: every lower-case edge passed holds. Assumes nothing.
use Rattle.closed.proofs.Common.{link_at, table_of, version1}
use Rattle.closed.specs.Parts.{CasesHeld}
use Rattle.closed.proofs.open_table.cases_held.Given as goal

abbrev pub invariant-loop-i : goal.invariant-loop-i
invariant-loop-i l = CasesHeld (link_at l.plan.file.now l.plan.m) l.i (table_of version1 l.t.n l.t.cells.now)
