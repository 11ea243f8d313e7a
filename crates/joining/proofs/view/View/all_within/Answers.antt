-- Every cell passed is within the reach, and one that is not is under it. Assumes nothing.
use Rattle.lowering.proofs.Common.{rules, arith, within_failed, within_all}
use Rattle.joining.proofs.view.View.all_within.Goals as goal

pub returns-then-not-in_reach : goal.returns-then-not-in_reach
returns-then-not-in_reach g c = search (within_failed, rules)

pub returns : goal.returns
returns g c = within_all c.loop-i.invariant (omega arith)
