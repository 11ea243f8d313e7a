-- A turn for each point passed. Assumes nothing.
use Rattle.lowering.proofs.Common.{adding, link_at, upper_point}
use Rattle.joining.proofs.Taking.{Turned}
use Rattle.wide.proofs.uppers.upper_all.Given as goal

abbrev pub invariant-loop-x : goal.invariant-loop-x
invariant-loop-x l = Turned (upper_point adding l.fn.t.n (link_at l.plan.file.now l.plan.m) l.plan.k) l.x l.fn.t l.t
