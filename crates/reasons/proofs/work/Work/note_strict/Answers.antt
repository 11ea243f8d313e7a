-- A line for open pairs alone is not noted. Assumes nothing.
use Rattle.reasons.specs.Notes.{note_strict}
use Rattle.reasons.proofs.work.Work.note_strict.Goals as goal

pub returns-then-is_strict-clause-cells : goal.returns-then-is_strict-clause-cells
unfolding note_strict
returns-then-is_strict-clause-cells c = rw (← c.is_strict.ensures, c.if-is_strict.true) c.note_pair.ensures.cells

pub returns-else-is_strict-clause-cells : goal.returns-else-is_strict-clause-cells
unfolding note_strict
returns-else-is_strict-clause-cells c = rw (← c.is_strict.ensures, c.if-is_strict.false)
