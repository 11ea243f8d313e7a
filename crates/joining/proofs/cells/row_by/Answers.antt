-- A turn for each cell of the row. Assumes nothing.
use Rattle.lowering.proofs.Common.{arith, row_by, read_stored, join_cell_is, turns_none, turns_more, turns_all, cell_lowers}
use Rattle.rules.specs.Cells.{cell_of}
use Rattle.cell.proofs.CellMethods.{stored_far, summed_far}
use Rattle.joining.proofs.cells.row_by.Goals as goal

pub loop-z-init : goal.loop-z-init
loop-z-init g c = turns_none c.requires.3

pub onward-requires : goal.onward-requires
onward-requires g c =
    let w = g.W.Word in
    let far = g.met.W.Word.reach_far in
    let read = read_stored w.ranges c.args.n c.args.y c.loop-z.z (w.values c.loop-z.t) (w.value c.get.result) c.loop-z.invariant.lowered.sound c.requires.1 c.loop-z-test.true c.get.ensures in
    (summed_far far _ c.requires.4, stored_far far _ read)

pub loop-z-preserved : goal.loop-z-preserved
loop-z-preserved g c =
    let w = g.W.Word in
    let cell = join_cell_is w.ranges c.args.n c.args.y c.args.x c.loop-z.z (cell_of w.ranges.mark (w.value c.args.a)) (w.values c.loop-z.t) (w.values c.lower_cell.new.t) (w.value c.get.result) (w.value c.onward.result) c.get.ensures c.onward.ensures c.lower_cell.ensures in
    turns_more (cell_lowers w.ranges g.met.W.Word.coherent c.args.n c.args.y c.args.x (cell_of w.ranges.mark (w.value c.args.a)) c.requires.0) c.loop-z.invariant c.loop-z-test.true cell

pub returns : goal.returns
unfolding row_by
returns g c = turns_all c.loop-z.invariant (omega arith)
