-- Tables that are not closed. Assumes nothing.
use Rattle.adding.proofs.AddAnswers.{are_not}
use Rattle.adding.proofs.add_to.Goals as goal

pub returns-then-not-closed : goal.returns-then-not-closed
returns-then-not-closed c = are_not c.args.plan.ready c.requires (c.closed.ensures.fails c.if-not-closed.true) c.clear.ensures
