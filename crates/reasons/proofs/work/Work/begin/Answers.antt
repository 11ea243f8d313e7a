-- Cleared, the weights the mark, and the points to themselves 0. Assumes nothing.
use Rattle.cell.specs.Steps.{adding}
use Rattle.cell.proofs.CellMethods.{mark_is}
use Rattle.reasons.proofs.StartLaws.{begun, begun_kept}
use Rattle.reasons.proofs.work.Work.begin.Goals as goal

pub returns-clause-holds : goal.returns-clause-holds
unfolding adding
returns-clause-holds c =
    let one = c.clear.ensures.same.plan in
    let two = c.fill.ensures.same.plan in
    let three = c.fill-2.ensures.same.plan in
    let four = c.diagonal.ensures.same.plan in
    begun c.args.self.now.room (mark_is adding.mark) c.clear.ensures.cells (rw one at c.fill.ensures.cells) (rw (two, one) at c.fill-2.ensures.cells)
    (rw (three, two, one) at c.diagonal.ensures.cells) (rw (four, three, two, one) at c.diagonal-2.ensures.cells)

pub returns-clause-kept : goal.returns-clause-kept
unfolding adding
returns-clause-kept c =
    let one = c.clear.ensures.same.plan in
    let two = c.fill.ensures.same.plan in
    let three = c.fill-2.ensures.same.plan in
    let four = c.diagonal.ensures.same.plan in
    begun_kept c.args.self.now.room (mark_is adding.mark) c.clear.ensures.cells (rw one at c.fill.ensures.cells) (rw (two, one) at c.fill-2.ensures.cells)
    (rw (three, two, one) at c.diagonal.ensures.cells) (rw (four, three, two, one) at c.diagonal-2.ensures.cells)
