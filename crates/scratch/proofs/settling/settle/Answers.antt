-- Both parts are lent as tables. Assumes nothing.
use Rattle.lowering.proofs.Common.{few}
use Rattle.scratch.proofs.settling.settle.Goals as goal

pub invariant_of-strict : goal.invariant_of-strict
invariant_of-strict c =
    record { few = few c.args.plan.ready; sound = rw c.split_at_mut-strict.ensures.front c.requires.strict }
