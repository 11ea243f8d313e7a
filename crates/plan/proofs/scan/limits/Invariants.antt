-- The answer to all limits is the answer to those from index i on. Assumes nothing.
use Rattle.plan.proofs.Common.{◌≡◌, ◌-◌, version1, records}
use Rattle.plan.specs.File.{limits_answer}
use Rattle.plan.proofs.scan.limits.Given as goal

abbrev pub invariant-loop-i : goal.invariant-loop-i
invariant-loop-i g l =
    let f = g.R.PlanRecords.limits l.from in
    limits_answer version1 l.n 0 (records f 0 l.m) ≡ limits_answer version1 l.n l.i (records f l.i (l.m - l.i))
