-- A turn for each link passed. Assumes nothing.
use Rattle.lowering.proofs.Common.{adding, link_at, case_link}
use Rattle.joining.proofs.Taking.{Turned}
use Rattle.wide.proofs.opening.case_all.Given as goal

abbrev pub invariant-loop-i : goal.invariant-loop-i
invariant-loop-i l = Turned (λ i. case_link adding l.fn.t.n (link_at l.plan.file.now l.plan.m i)) l.i l.fn.t l.t
