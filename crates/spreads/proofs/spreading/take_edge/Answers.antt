-- An edge that closes a walk below 0 is written to the diagonal, and any other is spread. Assumes nothing.
use Rattle.lowering.proofs.Common.{arith, back, cell32, read_stored, span_cell, version1}
use Rattle.lowering.proofs.Laws.SpreadAsRead.{take_edge_closes, take_edge_spreads}
use Rattle.spreads.proofs.Passing.{passed, taken}
use Rattle.spreads.proofs.spreading.take_edge.Goals as goal

pub add-around-requires : goal.add-around-requires
add-around-requires c =
    let t = c.args.t.now in
    rw (passed c.get.result c.get.type_inv, back c.ranges.w)
    (c.requires.2, read_stored version1 t.n c.args.b c.args.a t.cells.now c.get.result t.sound c.requires.1 c.requires.0 c.get.ensures)

pub returns-then-below : goal.returns-then-below
returns-then-below c =
    let t = c.args.t.now in
    let around = rw (passed c.get.result c.get.type_inv, back c.ranges.w) at c.add-around.ensures in
    let test = rw (passed c.add-around.result c.add-around.type_inv, passed c.of.result c.of.type_inv) at c.below.ensures in
    taken (rw (passed c.add-around.result c.add-around.type_inv) at c.lower_cell.ensures)
    (take_edge_closes version1 t.n c.args.a c.args.b t.cells.now (cell32 c.args.w) c.get.result c.add-around.result c.of.result c.get.ensures around
    (span_cell (omega arith) c.of.ensures) test c.if-below.true)

pub returns-else-below : goal.returns-else-below
returns-else-below c =
    let t = c.args.t.now in
    let around = rw (passed c.get.result c.get.type_inv, back c.ranges.w) at c.add-around.ensures in
    let test = rw (passed c.add-around.result c.add-around.type_inv, passed c.of.result c.of.type_inv) at c.below.ensures in
    taken (rw (back c.ranges.w) at c.spread_all.ensures)
    (take_edge_spreads version1 t.n c.args.a c.args.b t.cells.now (cell32 c.args.w) c.get.result c.add-around.result c.of.result c.get.ensures around
    (span_cell (omega arith) c.of.ensures) test c.if-below.false)
