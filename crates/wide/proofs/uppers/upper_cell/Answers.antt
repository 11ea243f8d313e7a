-- One cell lowered to what Upper yields. Assumes nothing.
use borrow.Author.Rules.{sfits_of}
use Rattle.lowering.proofs.Common.{arith, back, link_of, read_stored, refl, rules}
use Rattle.lowering.proofs.Laws.LinksAsRead.{upper_cell_is}
use Rattle.cell.specs.Widths.{adding_weights}
use Rattle.cell.proofs.CellMethods.{stored_roomy}
use Rattle.wide.proofs.uppers.upper_cell.Goals as goal

pub upper-requires : goal.upper-requires
upper-requires c =
    (search (stored_roomy, read_stored, rules), omega (arith, adding_weights, c.requires), omega (arith, adding_weights, c.requires))

pub returns : goal.returns
returns c =
    let a = link_of c.args.a in
    record {
      same_list = search rules;
      same_size = search rules;
      cells =
          upper_cell_is _ _ _ a _ _ _ _ c.get-c.ensures (rw (back (sfits_of c.get-c.type_inv)) at (c.upper.ensures a refl refl))
          (rw (back (sfits_of c.upper.type_inv)) at c.lower_cell.ensures.cells);
    }
