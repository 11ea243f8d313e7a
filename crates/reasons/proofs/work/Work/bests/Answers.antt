-- A sound plan has few points, and there is room for its tables. Assumes nothing.
use Rattle.lowering.proofs.Laws.LinksAsRead.{few}
use Rattle.reasons.proofs.work.Work.bests.Goals as goal

pub invariant_of-result : goal.invariant_of-result
invariant_of-result c = record { few = few c.args.self.now.plan.ready; room = c.args.self.now.room }
