-- So many parts are done: the list so far is what they have made, and the lists and the work room hold it.
use Rattle.std.proofs.Common.{◌≡◌, ◌+◌, length}
use Rattle.plan.specs.Layout.{plan_of}
use Rattle.reasons.specs.Lent.{lists_of, SameLists, SameWork}
use Rattle.reasons.specs.Stands.{first_of}
use Rattle.reasons.proofs.WorkLaws.{Done}
use Rattle.reasons.proofs.working.work_through.Given as goal

abbrev pub invariant-loop-part : goal.invariant-loop-part
invariant-loop-part l = record {
  lists_same : SameLists l.initial.lists l.lists;
  room_same : l.lists.room ≡ l.initial.lists.room;
  work_same : SameWork l.initial.work l.work;
  done : Done (plan_of l.initial.work.plan.file.now) l.g (first_of l.parts) (first_of l.parts + length l.parts) l.initial.lists.room l.count
      (lists_of l.initial.lists) l.initial.work.cells.now l.part-index l.lines (lists_of l.lists) l.work.cells.now;
}
