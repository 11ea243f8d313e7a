-- The strict table, then the open one under it, then its own part. Assumes nothing.
use Rattle.lowering.specs.Sweep.{sweep_open}
use Rattle.scratch.proofs.settling.sweep.Goals as goal

pub returns-clause-weak : goal.returns-clause-weak
unfolding sweep_open
returns-clause-weak c = record { same_list = cc; same_size = cc; cells = cc }
