-- A turn for each limit passed. Assumes nothing.
use Rattle.lowering.proofs.Common.{version1, limit_at, limit_cell}
use Rattle.joining.proofs.Taking.{Turned}
use Rattle.first.proofs.starting.limit_all.Given as goal

abbrev pub invariant-loop-i : goal.invariant-loop-i
invariant-loop-i l =
    let n = l.initial.t.n in
    Turned (λ i. limit_cell version1 n (limit_at l.plan.file.now i)) l.i l.initial.t l.t
