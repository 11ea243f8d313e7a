-- An edge that lowers its cell is taken, and any other changes nothing. Assumes nothing.
use Rattle.lowering.proofs.Common.{back, cell32, version1}
use Rattle.lowering.proofs.Laws.SpreadAsRead.{kept_stored, new_edge_is, new_edge_stays}
use Rattle.joining.proofs.Taking.{takes_none}
use Rattle.spreads.proofs.Passing.{passed, taken}
use Rattle.spreads.proofs.spreading.new_edge.Goals as goal

pub take_edge-requires : goal.take_edge-requires
take_edge-requires c = (c.requires.0, c.requires.1, rw (passed c.kept-w.result c.kept-w.type_inv) (kept_stored version1.reach _ c.kept-w.ensures))

pub returns-then-below : goal.returns-then-below
returns-then-below c =
    let t = c.args.t.now in
    let kept = rw (back c.ranges.c) at c.kept-w.ensures in
    let test = rw (passed c.kept-w.result c.kept-w.type_inv, passed c.get.result c.get.type_inv) at c.below.ensures in
    taken (rw (passed c.kept-w.result c.kept-w.type_inv) at c.take_edge.ensures)
    (new_edge_is version1 t.n c.args.a c.args.b t.cells.now (cell32 c.args.c) c.kept-w.result c.get.result kept c.get.ensures test c.if-below.true)

pub returns-else-below : goal.returns-else-below
returns-else-below c =
    let t = c.args.t.now in
    let kept = rw (back c.ranges.c) at c.kept-w.ensures in
    let test = rw (passed c.kept-w.result c.kept-w.type_inv, passed c.get.result c.get.type_inv) at c.below.ensures in
    takes_none
    (new_edge_stays version1 t.n c.args.a c.args.b t.cells.now (cell32 c.args.c) c.kept-w.result c.get.result kept c.get.ensures test c.if-below.false)
