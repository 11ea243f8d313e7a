-- Each point passed holds 0 to itself.
use Rattle.reasons.specs.Lent.{SameWork}
use Rattle.reasons.specs.Starting.{Diagonal}
use Rattle.reasons.proofs.work.Work.diagonal.Given as goal

abbrev pub invariant-loop-x : goal.invariant-loop-x
invariant-loop-x l = record {
  same : SameWork l.initial.self l.self;
  done : Diagonal l.initial.self.plan.n l.table l.x l.initial.self.cells.now l.self.cells.now;
}
