-- A row that the edge shortens is taken by the way over it, and any other stays. Assumes nothing.
use Rattle.lowering.proofs.Common.{rules, back, cell32, read_stored, version1}
use Rattle.lowering.proofs.Laws.SpreadAsRead.{way_summed, spread_row_is, spread_row_stays}
use Rattle.joining.proofs.Taking.{takes_none}
use Rattle.spreads.proofs.Passing.{passed, taken}
use Rattle.spreads.proofs.spreading.spread_row.Goals as goal

pub add-way-requires : goal.add-way-requires
add-way-requires c =
    let t = c.args.t.now in
    rw (passed c.get.result c.get.type_inv, back c.ranges.w)
    (read_stored version1 t.n c.args.x c.args.a t.cells.now c.get.result t.sound c.requires.0 c.requires.1 c.get.ensures, c.requires.3)

pub row_by-requires : goal.row_by-requires
row_by-requires c =
    let t = c.args.t.now in
    let way = rw (passed c.get.result c.get.type_inv, back c.ranges.w) at c.add-way.ensures in
    let old = read_stored version1 t.n c.args.x c.args.a t.cells.now c.get.result t.sound c.requires.0 c.requires.1 c.get.ensures in
    let sum = way_summed version1.reach (cell32 c.get.result) (cell32 c.args.w) way old c.requires.3 in
    (search rules, search rules, rw (passed c.add-way.result c.add-way.type_inv) sum)

pub returns-then-below : goal.returns-then-below
returns-then-below c =
    let t = c.args.t.now in
    let way = rw (passed c.get.result c.get.type_inv, back c.ranges.w) at c.add-way.ensures in
    let test = rw (passed c.add-way.result c.add-way.type_inv, passed c.get-2.result c.get-2.type_inv) at c.below.ensures in
    taken (rw (passed c.add-way.result c.add-way.type_inv) at c.row_by.ensures)
    (spread_row_is version1 t.n c.args.a c.args.b t.cells.now (cell32 c.args.w) c.args.x c.get.result c.add-way.result c.get-2.result c.get.ensures way
    c.get-2.ensures test c.if-below.true)

pub returns-else-below : goal.returns-else-below
returns-else-below c =
    let t = c.args.t.now in
    let way = rw (passed c.get.result c.get.type_inv, back c.ranges.w) at c.add-way.ensures in
    let test = rw (passed c.add-way.result c.add-way.type_inv, passed c.get-2.result c.get-2.type_inv) at c.below.ensures in
    takes_none
    (spread_row_stays version1 t.n c.args.a c.args.b t.cells.now (cell32 c.args.w) c.args.x c.get.result c.add-way.result c.get-2.result c.get.ensures way
    c.get-2.ensures test c.if-below.false)
