-- Some sweeps done, and the local is how far both tables can still fall, which is the measure. Assumes nothing.
use Rattle.scratch.proofs.AddSweeps.{Sweeping}
use Rattle.scratch.proofs.settling.sweeps.Given as goal

abbrev pub invariant-loop-first : goal.invariant-loop-first
invariant-loop-first l = Sweeping l.plan l.fn.strict l.fn.open l.strict l.open l.last

abbrev pub decreases-loop-first : goal.decreases-loop-first
decreases-loop-first l = l.last
