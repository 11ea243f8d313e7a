-- A turn for each middle passed. Assumes nothing.
use Rattle.lowering.proofs.Common.{join_middle}
use Rattle.joining.proofs.Taking.{Turned}
use Rattle.joining.proofs.table.Table.join_all.Given as goal

abbrev pub invariant-loop-y : goal.invariant-loop-y
invariant-loop-y g l = Turned (join_middle g.W.Word.ranges l.initial.self.n) l.y l.initial.self l.self
