-- Two cells lowered, to the longest span and to minus the shortest. Assumes nothing.
use Rattle.lowering.proofs.Common.{arith, link_of}
use Rattle.first.proofs.Edges.{span_passed, minus_passed, edges_taken}
use Rattle.first.proofs.starting.link_edges.Goals as goal

pub returns : goal.returns
returns c =
    let long = span_passed c.requires.most c.of.ensures in
    let short = minus_passed (omega (arith, c.requires.order, c.requires.most)) c.of-2.ensures c.negated.ensures in
    edges_taken (link_of c.args.a) _ _ long short c.lower_cell.ensures c.lower_cell-2.ensures
