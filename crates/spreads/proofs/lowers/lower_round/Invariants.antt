-- A turn for each link passed. Assumes nothing.
use Rattle.lowering.proofs.Common.{version1, link_at, lower_edges}
use Rattle.joining.proofs.Taking.{Turned}
use Rattle.spreads.proofs.lowers.lower_round.Given as goal

abbrev pub invariant-loop-i : goal.invariant-loop-i
invariant-loop-i l =
    let n = l.initial.t.n in
    let link = link_at l.plan.file.now l.plan.m in
    Turned (λ i. lower_edges version1 n link l.plan.k (link i)) l.i l.initial.t l.t
