-- A turn for each link passed. Assumes nothing.
use Rattle.lowering.proofs.Common.{version1, link_at, upper_edges}
use Rattle.joining.proofs.Taking.{Turned}
use Rattle.spreads.proofs.uppers.upper_round.Given as goal

abbrev pub invariant-loop-i : goal.invariant-loop-i
invariant-loop-i l =
    let n = l.initial.t.n in
    Turned (λ i. upper_edges version1 n (link_at l.plan.file.now l.plan.m i)) l.i l.initial.t l.t
