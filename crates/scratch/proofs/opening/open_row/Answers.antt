-- A turn for each cell of the row. Assumes nothing.
use borrow.Author.Rules.{sfits_of}
use Rattle.lowering.proofs.Common.{arith, adding, back, open_row}
use Rattle.lowering.specs.Sweep.{open_cell}
use Rattle.lowering.proofs.Laws.FirstAsRead.{open_cell_is}
use Rattle.joining.proofs.Taking.{turned_more, turned_all}
use Rattle.scratch.proofs.opening.open_row.Goals as goal

pub loop-y-preserved : goal.loop-y-preserved
loop-y-preserved c =
    let lowered = rw (back (sfits_of c.get.type_inv)) at c.lower_cell.ensures in
    let strict = c.args.strict.cells.now in
    turned_more (λ n. open_cell adding n strict c.args.x) c.loop-y.invariant
    (record {
      same_list = lowered.same_list;
      same_size = lowered.same_size;
      cells = open_cell_is adding _ strict _ _ _ _ _ (rw (c.loop-y.invariant.same_size, ← c.requires.1) c.get.ensures) lowered.cells;
    })

pub returns : goal.returns
unfolding open_row
returns c = turned_all c.args.open.now.n c.loop-y.invariant (omega arith)
