-- An edge of what Upper yields. Assumes nothing.
use Rattle.lowering.proofs.Common.{rules, arith, refl, link_of, read_stored, version1}
use Rattle.lowering.proofs.Laws.LinksAsRead.{upper_edge_is}
use Rattle.spreads.proofs.Passing.{passed, taken}
use Rattle.spreads.proofs.uppers.upper_edge.Goals as goal

pub upper-requires : goal.upper-requires
upper-requires c =
    let a = c.requires.1 in
    (rw (passed c.get-c.result c.get-c.type_inv) (search (read_stored, rules)), omega (arith, a.order, a.most), a.most)

pub returns : goal.returns
returns c =
    let t = c.args.t.now in
    let a = link_of c.args.a in
    let upper = rw (passed c.get-c.result c.get-c.type_inv) at (c.upper.ensures a refl refl) in
    taken (rw (passed c.upper.result c.upper.type_inv) at c.new_edge.ensures)
    (upper_edge_is version1 t.n c.args.x a t.cells.now c.new_edge.new.t.cells.now c.get-c.result c.upper.result c.get-c.ensures upper)
