-- A turn for each link passed. Assumes nothing.
use Rattle.lowering.proofs.Common.{version1, link_at, case_edge}
use Rattle.joining.proofs.Taking.{Turned}
use Rattle.tables.proofs.opening.case_edges.Given as goal

abbrev pub invariant-loop-i : goal.invariant-loop-i
invariant-loop-i l =
    let n = l.initial.«open».n in
    Turned (λ i. case_edge version1 n (link_at l.plan.file.now l.plan.m i)) l.i l.initial.«open» l.«open»
