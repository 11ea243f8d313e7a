-- What is asked of all i links is what is asked of the first j. Assumes nothing.
use Rattle.plan.proofs.Common.{◌≡◌, earlier}
use Rattle.plan.specs.File.{fresh}
use Rattle.plan.proofs.scan.fresh.Given as goal

abbrev pub invariant-loop-j : goal.invariant-loop-j
invariant-loop-j g l = let f = g.R.PlanRecords.links l.from in fresh l.con (earlier f l.i) ≡ fresh l.con (earlier f l.j)
