-- The strict table, then the open one.
use Rattle.offers.specs.Drafts.{made_of}
use Rattle.reasons.proofs.NoteLaws.{line_written}
use Rattle.reasons.proofs.work.Work.note_line.Goals as goal

pub returns-clause-cells : goal.returns-clause-cells
returns-clause-cells c =
    line_written c.args.self.now.plan.n (made_of c.args.d) c.args.line c.args.self.now.cells.now c.note_strict.ensures.cells
    (rw c.note_strict.ensures.same.plan at c.note_pair.ensures.cells)
