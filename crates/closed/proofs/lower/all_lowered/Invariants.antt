-- `lower::all_lowered`: every link passed is lowered. Assumes nothing.
use Rattle.closed.proofs.Common.{ℕ, ◌<◌, link_at, table_of, version1}
use Rattle.closed.specs.Parts.{LinkLowered}
use Rattle.closed.proofs.lower.all_lowered.Given as goal

abbrev pub invariant-loop-i : goal.invariant-loop-i
invariant-loop-i l = (i : ℕ) → i < l.i → LinkLowered (link_at l.plan.file.now l.plan.m) l.plan.k (table_of version1 l.t.n l.t.cells.now) (link_at l.plan.file.now l.plan.m i)
