-- The answer to all links is the answer to those from index i on, after those before it. Assumes nothing.
use Rattle.plan.proofs.Common.{◌≡◌, ◌-◌, version1, records, earlier}
use mathlib.Core.List.{[]}
use Rattle.plan.specs.File.{links_answer}
use Rattle.plan.proofs.scan.links.Given as goal

abbrev pub invariant-loop-i : goal.invariant-loop-i
invariant-loop-i g l =
    let f = g.R.PlanRecords.links l.from in
    links_answer version1 l.n l.m 0 [] (records f 0 l.k) ≡ links_answer version1 l.n l.m l.i (earlier f l.i) (records f l.i (l.k - l.i))
