-- A turn for each row passed, of those before the middle and of those after it. Assumes nothing.
use Rattle.lowering.proofs.Common.{join_row}
use Rattle.joining.proofs.Taking.{Turned}
use Rattle.joining.proofs.table.Table.join_middle.Given as goal

abbrev pub invariant-above : goal.invariant-above
invariant-above g l = Turned (join_row g.W.Word.ranges l.fn.self.n l.y) l.x l.fn.self l.self

abbrev pub invariant-below : goal.invariant-below
invariant-below g l = Turned (join_row g.W.Word.ranges l.fn.self.n l.y) l.x l.fn.self l.self
