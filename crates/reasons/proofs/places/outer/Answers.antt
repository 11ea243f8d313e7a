-- There are few points. Assumes nothing.
use Rattle.std.proofs.Common.{arith}
use Rattle.lowering.proofs.Laws.LinksAsRead.{few}
use Rattle.reasons.proofs.places.outer.Goals as goal

pub overflow_cast-result : goal.overflow_cast-result
overflow_cast-result c = omega (arith, few c.args.plan.ready)
