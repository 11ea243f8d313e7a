-- A turn for each point passed. Assumes nothing.
use Rattle.lowering.proofs.Common.{version1, num, pos, lower_cell}
use Rattle.joining.proofs.Taking.{Turned}
use Rattle.first.proofs.starting.start_all.Given as goal

abbrev pub invariant-loop-x : goal.invariant-loop-x
invariant-loop-x l =
    let n = l.initial.t.n in
    Turned (λ x. lower_cell version1 n x 0 (num (pos 0))) l.x l.initial.t l.t
