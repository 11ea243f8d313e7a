-- A table stays sound where a row is taken by a middle point. Assumes nothing.
use Rattle.lowering.proofs.Theory.SpreadSteps.{row_by_lowered}
use Rattle.rules.specs.Cells.{cell_of}
use Rattle.joining.proofs.table.Table.row_by.Goals as goal

pub invariant_of-self-clause-sound : goal.invariant_of-self-clause-sound
invariant_of-self-clause-sound g c =
    let w = g.W.Word in
    let t = c.args.self.now in
    let a = cell_of w.ranges.mark (w.value c.args.a) in
    rw c.row_by.ensures ((row_by_lowered w.ranges g.met.W.Word.coherent t.n c.args.y c.args.x a c.requires.0 (w.values t.cells.now) t.sound).sound)
