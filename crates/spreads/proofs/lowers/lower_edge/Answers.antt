-- Nothing for a link's own contingent point, else an edge of what Lower yields. Assumes nothing.
use Rattle.lowering.proofs.Common.{arith, refl, link_of, read_stored, spread_is, version1}
use Rattle.lowering.proofs.Laws.LinksAsRead.{lower_edge_own, lower_edge_is}
use Rattle.joining.proofs.Taking.{takes_none}
use Rattle.spreads.proofs.Passing.{passed, taken}
use Rattle.spreads.proofs.lowers.lower_edge.Goals as goal

pub lower-requires : goal.lower-requires
lower-requires c =
    let t = c.args.t.now in
    let a = c.requires.0 in
    let b = c.requires.1 in
    let read = read_stored version1 t.n c.args.a.con c.args.b.con t.cells.now c.get-c.result t.sound a.con b.con c.get-c.ensures in
    (rw (passed c.get-c.result c.get-c.type_inv) read, omega (arith, a.order, a.most), omega (arith, b.most))

pub returns-then-b-a : goal.returns-then-b-a
returns-then-b-a c =
    let t = c.args.t.now in
    let a = link_of c.args.a in
    let b = link_of c.args.b in
    let lower = rw (passed c.get-c.result c.get-c.type_inv) at (c.lower.ensures a b refl (spread_is b c.requires.1.order)) in
    taken (rw (passed c.lower.result c.lower.type_inv) at c.new_edge.ensures)
    (lower_edge_is version1 t.n a b t.cells.now c.new_edge.new.t.cells.now c.get-c.result c.lower.result c.if-b-a.true c.get-c.ensures lower)

pub returns-else-b-a : goal.returns-else-b-a
returns-else-b-a c =
    let t = c.args.t.now in
    takes_none (lower_edge_own version1 t.n (link_of c.args.a) (link_of c.args.b) t.cells.now c.if-b-a.false)
