-- Both tables stand as before a round, in their lists and of their size, and the local is how far the strict one can still fall, which is the measure.
-- Assumes nothing.
use Rattle.lowering.proofs.Common.{◌≡◌, ◌*◌, version1, heights}
use Rattle.tables.proofs.SettleLoop.{Standing}
use Rattle.tables.proofs.settling.settle.Given as goal

abbrev pub invariant-rounds : goal.invariant-rounds
invariant-rounds l =
    Standing l.plan.file.now l.plan.m l.plan.k l.fn.strict l.fn.«open» l.strict_table.cells.now l.open_table.cells.now
    × (l.last ≡ heights version1 (l.plan.n * l.plan.n) l.strict_table.cells.now) × (l.strict_table.n ≡ l.plan.n) × (l.open_table.n ≡ l.plan.n)
    × (l.strict_table.cells.ghost_name ≡ l.initial.strict_table.cells.ghost_name)
    × (l.open_table.cells.ghost_name ≡ l.initial.open_table.cells.ghost_name)

abbrev pub decreases-rounds : goal.decreases-rounds
decreases-rounds l = l.last
