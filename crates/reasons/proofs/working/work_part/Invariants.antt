-- The loop has come to a place of the part: the list so far is what the part has made, and the lists and the work room hold it.
use Rattle.std.proofs.Common.{◌≡◌, ◌+◌}
use Rattle.plan.specs.Layout.{plan_of}
use Rattle.reasons.specs.Lent.{lists_of, SameLists, SameWork}
use Rattle.reasons.specs.Stands.{part_number, next_of, left_of}
use Rattle.reasons.proofs.WorkLaws.{Going}
use Rattle.reasons.proofs.working.work_part.Given as goal

abbrev pub invariant-loop-next : goal.invariant-loop-next
invariant-loop-next l = record {
  lists_same : SameLists l.initial.lists l.lists;
  room_same : l.lists.room ≡ l.initial.lists.room;
  work_same : SameWork l.initial.work l.work;
  going : Going (plan_of l.initial.work.plan.file.now) l.g (part_number l.part) (part_number l.part + 1) l.initial.lists.room l.count (lists_of l.initial.lists)
      l.initial.work.cells.now (next_of (part_number l.part) l.next) l.lines (lists_of l.lists) l.work.cells.now;
}

abbrev pub decreases-loop-next : goal.decreases-loop-next
decreases-loop-next l = left_of (next_of (part_number l.part) l.next)
