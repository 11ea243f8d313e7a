-- The shortest span is a number of a cell. Assumes nothing.
use Rattle.lowering.proofs.Common.{arith, case_edge, span_cell}
use Rattle.spreads.proofs.Passing.{passed}
use Rattle.tables.proofs.opening.case_edge.Goals as goal

pub returns : goal.returns
unfolding case_edge
returns c =
    let a = c.requires in
    rw (passed c.of.result c.of.type_inv, span_cell {n = c.args.a.short} (omega (arith, a.order, a.most)) c.of.ensures) at c.new_edge.ensures
