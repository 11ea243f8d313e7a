-- Both passes say nothing against the plan, or one of them does. Assumes nothing.
use Rattle.lowering.proofs.Common.{rules, looked_failed, looked_both}
use Rattle.joining.proofs.view.View.fair.Goals as goal

pub returns-then-not-all_within : goal.returns-then-not-all_within
returns-then-not-all_within g c = search (looked_failed, rules)

pub returns : goal.returns
returns g c = search (looked_both, rules)
