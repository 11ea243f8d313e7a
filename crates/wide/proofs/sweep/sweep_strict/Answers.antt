-- Joins, then Lower, then Upper. Assumes nothing.
use Rattle.lowering.specs.Sweep.{sweep_strict}
use Rattle.wide.proofs.sweep.sweep_strict.Goals as goal

pub returns : goal.returns
unfolding sweep_strict
returns c = record { same_list = cc; same_size = cc; cells = cc }
