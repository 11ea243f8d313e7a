-- A turn for each link passed. Assumes nothing.
use Rattle.lowering.proofs.Common.{adding, link_at}
use Rattle.lowering.specs.Sweep.{upper_cell}
use Rattle.joining.proofs.Taking.{Turned}
use Rattle.wide.proofs.uppers.upper_point.Given as goal

abbrev pub invariant-loop-i : goal.invariant-loop-i
invariant-loop-i l = Turned (λ i. upper_cell adding l.fn.t.n l.x (link_at l.plan.file.now l.plan.m i)) l.i l.fn.t l.t
