-- An edge of the strict cell that was read. Assumes nothing.
use Rattle.lowering.proofs.Common.{link_of, version1}
use Rattle.lowering.proofs.Laws.LinksAsRead.{follow_lower_is}
use Rattle.spreads.proofs.Passing.{passed, taken}
use Rattle.tables.proofs.opening.follow_lower.Goals as goal

pub returns : goal.returns
returns c =
    let t = c.args.«open».now in
    let read = rw c.requires.0 at c.get.ensures in
    taken (rw (passed c.get.result c.get.type_inv) at c.new_edge.ensures)
    (follow_lower_is version1 t.n c.args.strict.cells.now (link_of c.args.a) (link_of c.args.b) t.cells.now c.new_edge.new.t.cells.now c.get.result read)
