-- A turn for each link passed. Assumes nothing.
use Rattle.lowering.proofs.Common.{adding, link_at, lower_link}
use Rattle.joining.proofs.Taking.{Turned}
use Rattle.wide.proofs.lowers.lower_all.Given as goal

abbrev pub invariant-loop-i : goal.invariant-loop-i
invariant-loop-i l =
    let link = link_at l.plan.file.now l.plan.m in
    Turned (λ i. lower_link adding l.fn.t.n link l.plan.k (link i)) l.i l.fn.t l.t
