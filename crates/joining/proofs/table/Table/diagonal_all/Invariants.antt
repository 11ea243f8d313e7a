-- A turn for each point passed. Assumes nothing.
use Rattle.lowering.proofs.Common.{lower_cell, num, pos}
use Rattle.joining.proofs.Taking.{Turned}
use Rattle.joining.proofs.table.Table.diagonal_all.Given as goal

abbrev pub invariant-loop-x : goal.invariant-loop-x
invariant-loop-x g l =
    let n = l.initial.self.n in
    Turned (λ x. lower_cell g.W.Word.ranges n x x (num (pos 0))) l.x l.initial.self l.self
