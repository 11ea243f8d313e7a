-- The list so far is that of some sweeps, none of which has ended it; each sweep that goes on adds lines, and they are never too many.
use Rattle.std.proofs.Common.{◌≡◌, ◌-◌}
use Rattle.cell.specs.Steps.{roomy}
use Rattle.plan.specs.Layout.{plan_of}
use Rattle.reasons.specs.Lent.{lists_of, SameLists, SameWork}
use Rattle.reasons.proofs.SweepLaws.{SweepingOn}
use Rattle.reasons.proofs.working.sweep_on.Given as goal

abbrev pub invariant-loop-swept : goal.invariant-loop-swept
invariant-loop-swept l = record {
  lists_same : SameLists l.initial.lists l.lists;
  room_same : l.lists.room ≡ l.initial.lists.room;
  work_same : SameWork l.initial.work l.work;
  sweeping : SweepingOn (plan_of l.initial.work.plan.file.now) l.initial.work.plan.n l.initial.lists.room l.count (lists_of l.initial.lists) l.initial.work.cells.now l.lines
      (lists_of l.lists) l.work.cells.now;
}

abbrev pub decreases-loop-swept : goal.decreases-loop-swept
decreases-loop-swept l = roomy.reach - l.lines
