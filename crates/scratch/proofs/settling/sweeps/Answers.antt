-- How sweeps begin, go on and end. Assumes nothing.
use mathlib.Core.Logic.{inl, inr}
use Rattle.lowering.proofs.Common.{arith, ◌≤◌}
use Rattle.scratch.proofs.AddSweeps.{sweeping_none, sweeping_more, sweeping_falls, settled_no, settled_yes}
use Rattle.scratch.proofs.settling.sweeps.Goals as goal
use Rattle.scratch.proofs.settling.sweeps.Goals.{then-not-fair-via-then-not-fair, then-not-fair-via-else-not-fair+then-not-fair-2}

pub loop-first-init : goal.loop-first-init
loop-first-init c = sweeping_none c.requires.0 c.requires.1 c.read.ensures c.read-2.ensures c.both_heights-last.ensures

pub returns-then-not-fair-clause-settled : goal.returns-then-not-fair-clause-settled
returns-then-not-fair-clause-settled c =
    let no = settled_no c.loop-first.invariant c.sweep.ensures.strict c.sweep.ensures.weak c.read-first.ensures c.read-second.ensures in
    elim c.then-not-fair.branch [
      | then-not-fair-via-then-not-fair w ↦ no (inl (c.fair.ensures.fails w.if-not-fair.true))
      | then-not-fair-via-else-not-fair+then-not-fair-2 w ↦ no (inr (w.fair-else-not-fair.ensures.fails w.if-not-fair-2.true))
    ]

pub returns-then-next-last-clause-settled : goal.returns-then-next-last-clause-settled
returns-then-next-last-clause-settled c =
    settled_yes c.loop-first.invariant c.sweep.ensures.strict c.sweep.ensures.weak c.read-first.ensures c.read-second.ensures
    c.both_heights-next.ensures c.if-next-last.true (c.fair.ensures.holds c.if-not-fair.false)
    (c.fair-else-not-fair.ensures.holds c.if-not-fair-2.false)

pub loop-first-smaller : goal.loop-first-smaller
loop-first-smaller c =
    let falls : c.both_heights-next.result ≤ c.loop-first.last = search sweeping_falls in
    omega arith

pub loop-first-preserved : goal.loop-first-preserved
loop-first-preserved c = search sweeping_more
