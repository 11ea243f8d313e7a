-- A list of marks is a table that a sweep stores. Assumes nothing.
use Rattle.lowering.proofs.Laws.FirstAsRead.{marks_sound}
use Rattle.joining.proofs.table.Table.marked.Goals as goal

pub invariant_of-result-clause-sound : goal.invariant_of-result-clause-sound
invariant_of-result-clause-sound g c = rw c.mark_all.ensures (marks_sound g.W.Word.ranges c.args.n (g.W.Word.values c.args.cells.now) c.requires.1)
