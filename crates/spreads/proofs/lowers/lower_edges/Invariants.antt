-- A turn for each second link passed. Assumes nothing.
use Rattle.lowering.proofs.Common.{version1, link_at, link_of}
use Rattle.lowering.specs.Spread.{lower_edge}
use Rattle.joining.proofs.Taking.{Turned}
use Rattle.spreads.proofs.lowers.lower_edges.Given as goal

abbrev pub invariant-loop-j : goal.invariant-loop-j
invariant-loop-j l =
    let n = l.initial.t.n in
    Turned (λ j. lower_edge version1 n (link_of l.a) (link_at l.plan.file.now l.plan.m j)) l.j l.initial.t l.t
