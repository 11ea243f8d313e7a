-- Nothing for a link's own contingent point, else one cell lowered to what Lower yields. Assumes nothing.
use borrow.Author.Rules.{sfits_of}
use Rattle.lowering.proofs.Common.{arith, back, link_of, spread_is, read_stored, refl, rules}
use Rattle.lowering.proofs.Laws.LinksAsRead.{pair_own, pair_is}
use Rattle.cell.specs.Widths.{adding_weights}
use Rattle.cell.proofs.CellMethods.{stored_roomy}
use Rattle.joining.proofs.Taking.{takes_none}
use Rattle.wide.proofs.lowers.lower_pair.Goals as goal

pub lower-requires : goal.lower-requires
lower-requires c =
    (search (stored_roomy, read_stored, rules), omega (arith, adding_weights, c.requires), omega (arith, adding_weights, c.requires))

pub returns-then-b-a : goal.returns-then-b-a
returns-then-b-a c =
    let b = link_of c.args.b in
    record {
      same_list = search rules;
      same_size = search rules;
      cells =
          pair_is _ _ (link_of c.args.a) b _ _ _ _ c.if-b-a.true c.get-c.ensures
          (rw (back (sfits_of c.get-c.type_inv)) at (c.lower.ensures (link_of c.args.a) b refl (spread_is b (omega (arith, c.requires.1.order)))))
          (rw (back (sfits_of c.lower.type_inv)) at c.lower_cell.ensures.cells);
    }

pub returns-else-b-a : goal.returns-else-b-a
returns-else-b-a c = takes_none (search (pair_own, rules))
