-- `closed` meets its contract: its tests together are the paper's sentence. Assumes nothing.
use Rattle.closed.proofs.Common.{closed_where, decided_no, few, not_closed, open_alone, strict_alone}
use Rattle.closed.proofs.closed.Goals as goal

pub alone-requires : goal.alone-requires
alone-requires c = (c.requires.0, few c.args.plan.ready)

pub returns-in_default : goal.returns-in_default
returns-in_default c = decided_no (λ h. c.in_default.ensures (strict_alone c.args.plan.ready h))

pub returns-in_default-alone : goal.returns-in_default-alone
returns-in_default-alone c = decided_no (λ h. c.in_default-alone.ensures (open_alone c.args.plan.ready h))

pub returns-then-strict_held : goal.returns-then-strict_held
returns-then-strict_held c =
    closed_where c.args.plan.ready _ _ c.in-Some.ensures c.strict_held.ensures c.if-strict_held.true c.in-Some-alone.ensures c.open_held.ensures

pub returns-else-strict_held : goal.returns-else-strict_held
returns-else-strict_held c = not_closed c.args.plan.ready _ _ c.in-Some.ensures c.strict_held.ensures c.if-strict_held.false
